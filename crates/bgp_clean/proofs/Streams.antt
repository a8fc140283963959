-- A cleaned stream is clean, message by message.
use Rattle.bgp_clean.proofs.Prelude.{◌≡◌, ℕ, ◌<◌, Bool, true, false, List, [], ◌∷◌, ◌++◌, length, map, take, Result, Ok, Err, refl, sym, ap, ap₂, subst, arith}
use Rattle.bgp_clean.proofs.Prelude.{flat_map, AllByRecursion, append-nil, all-append, AreOctets, Row, AreOctets-front, AreOctets-back, IsFrame, Waits, wanted-bounds}
use Rattle.bgp_clean.proofs.Prelude.{Context, Update, Message, Outcome, IsTakenAsItself, is_reset, stream_rules, written, CleanFault, cleaned, IsClean, outcome_of}
use Rattle.bgp_clean.proofs.Prelude.{AreUnchanged, NoLonger, IsCleanStream, Lesson, lesson, lesson_from, handed_then, joined_messages, cleaned_from, cleaned_stream}
use Rattle.bgp_frame.specs.declared.end.End.{End}
use Rattle.bgp_frame.specs.Frame as frame
use Rattle.bgp_frame.specs.Stream as stream
use Rattle.bgp_msg.specs.Prelude.{canonical}
use Rattle.bgp_terms.specs.declared.refreshes.Refreshes.TheVariants as refreshes
use Rattle.bgp_clean.proofs.Handed.{handed-clean}
use Rattle.bgp_frame.specs.Kind.{plain}
use Rattle.bgp_frame.specs.steps.AreTypes.{plain-are}

module _ (ctx : Context) (drops : ℕ → Bool) (refuses : Update → Bool) where
  -- messages that are unchanged, and others after them
  more-unchanged : (first : Bool) (ns later : List Message) → 0 < length ns → AreUnchanged refreshes.None ctx drops refuses first ns → AreUnchanged refreshes.None ctx drops refuses false later
      → AreUnchanged refreshes.None ctx drops refuses first (ns ++ later)
  more-unchanged first [] later some all rest = absurd (omega (arith, some))
  more-unchanged first (n ∷ []) later some all rest = (all.0, rest)
  more-unchanged first (n ∷ m ∷ ns) later some all rest = (all.0, more-unchanged false (m ∷ ns) later (omega arith) all.1 rest)

  -- cleaned one by one they are unchanged
  each-alone : (first : Bool) (ns : List Message) → AreUnchanged refreshes.None ctx drops refuses first ns → cleaned_from ctx drops refuses first (map (written ctx) ns) ≡ map (λ n. n ∷ []) ns
  each-alone first [] all = refl
  each-alone first (n ∷ ns) all = ap₂ (λ (r : Result (List Message) CleanFault) (later : List (List Message)). handed_then r later) all.0 (each-alone false ns all.1)

  -- what is claimed of the messages that are passed on, of a stream from its first message or a later one
  record AreClean (first : Bool) (ms : List frame.Message) (each : List (List Message)) : Type 0 where
    taken : AllByRecursion (IsTakenAsItself ctx) (joined_messages each)
    again : AreUnchanged refreshes.None ctx drops refuses first (joined_messages each)
    no_longer : NoLonger ctx each ms
    taught : map (lesson_from refreshes.None ctx drops refuses) each ≡ map (lesson ctx drops refuses) (take (length each) ms)

  none-clean : (first : Bool) (ms : List frame.Message) → AreClean first ms []
  none-clean first ms = record { taken = tt; again = tt; no_longer = tt; taught = refl }

  one-more : (first : Bool) (m : frame.Message) (ns : List Message) (ms : List frame.Message) (each : List (List Message)) → IsClean ctx drops refuses first m ns → AreClean false ms each
      → AreClean first (m ∷ ms) (ns ∷ each)
  one-more first m ns ms each clean rest = record {
    taken = all-append (IsTakenAsItself ctx) ns (joined_messages each) clean.taken rest.taken;
    again = more-unchanged first ns (joined_messages each) clean.some clean.again rest.again;
    no_longer = (clean.no_longer, rest.no_longer);
    taught = ap₂ (λ (l : Lesson) (ls : List Lesson). l ∷ ls) clean.taught rest.taught;
  }

  then-clean : (first : Bool) (m : frame.Message) (ms : List frame.Message) (octets : List ℕ) (later : List (List Message)) → AreOctets octets → IsFrame m octets
      → AreClean false ms later → (r : Result (List Message) CleanFault) → cleaned ctx drops refuses first m ≡ r → AreClean first (m ∷ ms) (handed_then r later)
  then-clean first m ms octets later are f rest (Ok ns) e = one-more first m ns ms later (handed-clean refreshes.None ctx drops refuses first m octets ns are f e) rest
  then-clean first m ms octets later are f rest (Err why) e = none-clean first (m ∷ ms)

  from-clean : (first : Bool) (ms : List frame.Message) (octets : List ℕ) → AreOctets octets → Row IsFrame ms octets → AreClean first ms (cleaned_from ctx drops refuses first ms)
  from-clean first [] octets are row = none-clean first []
  from-clean first (m ∷ ms) octets are row =
      let joined : AreOctets (row.0 ++ row.1) = subst AreOctets row.2 are in
      then-clean first m ms row.0 (cleaned_from ctx drops refuses false ms) (AreOctets-front row.0 row.1 joined) row.3
      (from-clean false ms row.1 (AreOctets-back row.0 row.1 joined) row.4) (cleaned ctx drops refuses first m) refl

-- ---- the stream that is written

module _ (ctx : Context) where
  frames : (ns : List Message) → AllByRecursion (IsTakenAsItself ctx) ns → Row IsFrame (map (written ctx) ns) (flat_map (canonical ctx) ns)
  frames [] taken = refl
  frames (n ∷ ns) taken = (canonical ctx n, flat_map (canonical ctx) ns, refl, (taken.0).whole, frames ns taken.1)

  go-on : (ns : List Message) → AllByRecursion (IsTakenAsItself ctx) ns → AllByRecursion (stream.GoesOn (stream_rules ctx)) (map (written ctx) ns)
  go-on [] taken = tt
  go-on (n ∷ ns) taken = (ap is_reset (taken.0).taken, go-on ns taken.1)

  told : (ns : List Message) → AllByRecursion (IsTakenAsItself ctx) ns → map (outcome_of ctx) ns ≡ map (stream.outcome_of (stream_rules ctx)) (map (written ctx) ns)
  told [] taken = refl
  told (n ∷ ns) taken = ap₂ (λ (o : Outcome) (os : List (ℕ × Outcome)). (length (canonical ctx n), o) ∷ os) (sym (taken.0).taken) (told ns taken.1)

  waits : Waits []
  waits = omega (arith, (wanted-bounds plain plain-are []).0)

  gives : (ns : List Message) → AllByRecursion (IsTakenAsItself ctx) ns → stream.Gives (stream_rules ctx) (flat_map (canonical ctx) ns) (map (outcome_of ctx) ns) (End.Wait 0)
  gives ns taken = record {
    messages = map (written ctx) ns;
    row = flat_map (canonical ctx) ns;
    rest = [];
    whole = sym (append-nil (flat_map (canonical ctx) ns));
    frames = frames ns taken;
    ends = record { go_on = go-on ns taken; waits = waits; count = refl; told = told ns taken };
  }

pub stream-clean : (ctx : Context) (drops : ℕ → Bool) (refuses : Update → Bool) (ms : List frame.Message) (octets : List ℕ) → AreOctets octets → Row IsFrame ms octets
    → IsCleanStream ctx drops refuses ms
stream-clean ctx drops refuses ms octets are row =
    let clean = from-clean ctx drops refuses true ms octets are row in
    record {
      taken = gives ctx (cleaned_stream ctx drops refuses ms) clean.taken;
      again = each-alone ctx drops refuses true (cleaned_stream ctx drops refuses ms) clean.again;
      no_longer = clean.no_longer;
      taught = clean.taught;
    }
