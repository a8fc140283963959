-- What the laws of cleaning claim of the messages that are passed on, and of a cleaned stream.
use Rattle.std.specs.Prelude.{◌≡◌, ◌<◌, ◌≤◌, ℕ, Bool, false, List, [], ◌∷◌, length, map, take, Ok}
use Rattle.std.specs.List.{AllByRecursion}
use Rattle.bgp_frame.specs.declared.end.End.TheVariants as end
use Rattle.bgp_frame.specs.Frame as frame
use Rattle.bgp_frame.specs.Prelude.{octets_of, Gives}
use Rattle.bgp_open.specs.declared.context.Context.{Context}
use Rattle.bgp_update.specs.declared.update.Update.{Update}
use Rattle.bgp_msg.specs.declared.message.Message.{Message}
use Rattle.bgp_msg.specs.declared.outcome.Outcome.{Outcome}
use Rattle.bgp_msg.specs.Prelude.{IsTakenAsItself, stream_rules, canonical, written}
use Rattle.bgp_terms.specs.declared.refreshes.Refreshes.{Refreshes}
use Rattle.bgp_terms.specs.declared.refreshes.Refreshes.TheVariants as refreshes
use Rattle.bgp_clean.specs.Clean.{cleaned_with}
use Rattle.bgp_clean.specs.Lesson.{Lesson, all_of, lesson, lesson_with}
use Rattle.bgp_clean.specs.Stream.{cleaned_each, cleaned_stream, cleaned_octets}

-- each of these messages is unchanged where it is cleaned again: the first of them as the first of its stream, or as one after it
abbrev pub AreUnchanged : Refreshes → Context → (ℕ → Bool) → (Update → Bool) → Bool → List Message → Type 0
AreUnchanged offers ctx drops refuses first [] = Unit {0}
AreUnchanged offers ctx drops refuses first (n ∷ ns) = (cleaned_with offers ctx drops refuses first (written ctx n) ≡ Ok (n ∷ [])) × AreUnchanged offers ctx drops refuses false ns

-- no message is longer than the one that it came from
abbrev pub AreNoLonger : Context → frame.Message → List Message → Type 0
AreNoLonger ctx m ns = AllByRecursion (λ n. length (canonical ctx n) ≤ length (octets_of m)) ns

-- what a receiver learns from these messages
abbrev pub lesson_from : Refreshes → Context → (ℕ → Bool) → (Update → Bool) → List Message → Lesson
lesson_from offers ctx drops refuses ns = all_of (map (λ n. lesson_with offers ctx drops refuses (written ctx n)) ns)

-- These are passed on of m, where an OPEN may offer this ROUTE-REFRESH: one or more whole messages that are accepted without a note, and unchanged where they are cleaned again; none longer than
-- m; and a receiver learns from them what RFC 7606 has the receiver of m learn
pub record IsCleanWith (offers : Refreshes) (ctx : Context) (drops : ℕ → Bool) (refuses : Update → Bool) (first : Bool) (m : frame.Message) (ns : List Message) : Type 0 where
  pub some : 0 < length ns
  pub taken : AllByRecursion (IsTakenAsItself ctx) ns
  pub again : AreUnchanged offers ctx drops refuses first ns
  pub no_longer : AreNoLonger ctx m ns
  pub taught : lesson_from offers ctx drops refuses ns ≡ lesson_with offers ctx drops refuses m

-- where it may offer none
abbrev pub IsClean : Context → (ℕ → Bool) → (Update → Bool) → Bool → frame.Message → List Message → Type 0
IsClean ctx drops refuses first m ns = IsCleanWith refreshes.None ctx drops refuses first m ns

-- a message that is accepted, without notes
abbrev pub outcome_of : Context → Message → ℕ × Outcome
outcome_of ctx n = (length (canonical ctx n), Outcome.Took n [])

-- the messages that are passed on of each of these are no longer than it
abbrev pub NoLonger : Context → List (List Message) → List frame.Message → Type 0
NoLonger ctx [] ms = Unit {0}
NoLonger ctx (ns ∷ later) [] = ⊥
NoLonger ctx (ns ∷ later) (m ∷ ms) = AreNoLonger ctx m ns × NoLonger ctx later ms

-- The cleaned stream of these messages is whole messages that are accepted without a note, and nothing after them; cleaned again it is unchanged; no
-- message is longer than its original; and a receiver learns from it what the receiver of the first messages of the stream learns, one by one
pub record IsCleanStream (ctx : Context) (drops : ℕ → Bool) (refuses : Update → Bool) (ms : List frame.Message) : Type 0 where
  pub taken : Gives (stream_rules ctx) (cleaned_octets ctx drops refuses ms) (map (outcome_of ctx) (cleaned_stream ctx drops refuses ms)) (end.Wait 0)
  pub again : cleaned_each ctx drops refuses (map (written ctx) (cleaned_stream ctx drops refuses ms)) ≡ map (λ n. n ∷ []) (cleaned_stream ctx drops refuses ms)
  pub no_longer : NoLonger ctx (cleaned_each ctx drops refuses ms) ms
  pub taught : map (lesson_from refreshes.None ctx drops refuses) (cleaned_each ctx drops refuses ms)
      ≡ map (lesson ctx drops refuses) (take (length (cleaned_each ctx drops refuses ms)) ms)
