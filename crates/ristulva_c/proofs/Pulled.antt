-- What a decoder gives of its held octets, in pieces.
use Rattle.ristulva_c.proofs.Below.{◌≡◌, ℕ, ◌≤◌, ◌⊎◌, Bool, false, not, nat_le, if◌then◌else◌, List, [], ◌++◌, length, take, Result, Ok, Err, Some, refl, sym, ap, subst, ◌∙◌, arith, inl, inr, both_ways, le-leb, take_all, AreOctets, HeadFault, Step, Message, Waits, ShowsFront, ShowsStep, Stops, Takes, IsContent, Outcome, Decoding, decoder, given_by, IsFed, IsPulled, holding, IsLook, Stops-wanted}
use Rattle.bgp_frame.proofs.Holding.{front_held}
use Rattle.bgp_msg.specs.declared.look.Look.TheVariants as look
use Rattle.bgp_frame.proofs.Hearings.{content_is, content_stops, counts_nothing, not_whole, pull_waits, taken_up, took_none}
use Rattle.bgp_msg.proofs.Pulls.{is_hearer, one_out, pulls_as_fed}
use Rattle.ristulva_c.specs.declared.status.TheConstants.{OK, ROOM}
use Rattle.ristulva_c.specs.Prelude.{GivesHeld}
use Rattle.bgp_frame.specs.Kind.{plain}
use Rattle.bgp_frame.specs.steps.AreTypes.{plain-are}

-- ---- what is held is one message, or one fault

module _ (d : Decoding) (o : Outcome) (gives : GivesHeld d o) where
  stops : Stops d.held
  stops = content_stops plain plain-are gives.0 d.held gives.1.0

  pub not_more : Waits d.held → ⊥
  not_more waits = not_whole plain plain-are d.held waits stops

  pub shows : AreOctets d.held → (s : Step) → ShowsFront d.held s → ShowsStep d.held s
  shows are s front = let long = Stops-wanted plain plain-are d.held stops in front_held plain plain-are d.held s (record { octets = are; within = omega (arith, long.1) }) front

  pub outcome_of : (what : Result Message HeadFault) → IsContent what d.held → o ≡ (given_by d what).1
  outcome_of what is =
      let same : Some gives.0 ≡ Some what = sym (content_is plain plain-are gives.0 d.held gives.1.0) ∙ content_is plain plain-are what d.held is in
      gives.1.1 ∙ ap (λ (w : Result Message HeadFault). (given_by d w).1) (let one : gives.0 ≡ what = cc in one)

-- ---- how much of the piece is fed

module _ (d : Decoding) (piece : List ℕ) (n k : ℕ) (o : Outcome) (new : Decoding) (pulled : IsPulled d piece n (Some (k, o)) new) where
  pub within : n ≤ length piece
  within = pulled.pulls.takes.within

  pub either : (n ≡ 0) ⊎ (d.held ≡ [])
  either = pulled.pulls.one_place

  pub fed : IsFed d piece n (holding d (d.held ++ take n piece))
  fed = (pulls_as_fed d piece n (Some (k, o)) new pulled).fed

  pub gives : GivesHeld (record { ctx = d.ctx; held = d.held ++ take n piece; stopped = false }) o
  gives =
      let whole : (what : Result Message HeadFault) × (IsContent what (d.held ++ take n piece) × ((k, o) ≡ given_by d what)) =
      (pulled.next.what, (pulled.next.is_held, one_out _ (k, o) new pulled.next)) in
      (whole.0, (whole.1.0, in_context whole.0 (ap (λ (out : ℕ × Outcome). out.1) whole.1.1)))
    where
      in_context : (what : Result Message HeadFault) → o ≡ (given_by d what).1
          → o ≡ (given_by (record { ctx = d.ctx; held = d.held ++ take n piece; stopped = false }) what).1
      in_context (Ok m) is = is
      in_context (Err f) is = is

-- ---- what is incomplete after a feed

pub waits : (d : Decoding) → d.stopped ≡ false → IsLook d [] look.Feed → Waits d.held
waits d going looks =
    let pulled = looks 0 d (counts_nothing plain plain-are (not d.stopped) d.held, sym (took_none decoder is_hearer d [] 0 refl)) in
    pull_waits decoder is_hearer d [] 0 d (λ over. absurd (both_ways (not d.stopped) over (ap not going))) pulled

-- the whole piece is fed where what is held then is less than a message
pub all_fed : (d : Decoding) (piece : List ℕ) (n : ℕ) (new : Decoding) → d.stopped ≡ false → IsFed d piece n new → Waits new.held → (n ≡ length piece) × (d.held ++ take n piece ≡ d.held ++ piece)
all_fed d piece n new going fed waits =
    let counts = taken_up plain plain-are (not d.stopped) d.held piece n (ap not going) fed.0 in
    let all = whole_of counts.0 (subst Waits (ap (λ (x : Decoding). x.held) fed.1) waits) in
    (all, ap (λ (x : List ℕ). d.held ++ x) (take_all n piece (omega (arith, all))))
  where
    whole_of : Takes d.held piece n → Waits (d.held ++ take n piece) → n ≡ length piece
    whole_of takes less = elim takes.all_or_stops [ inl all ↦ all | inr stops ↦ absurd (not_whole plain plain-are (d.held ++ take n piece) less stops) ]

-- ---- room

-- data of a NOTIFICATION always fit in this room
pub enough : (a b : ℕ) → a ≤ 4075 → 4075 ≤ b → OK ≡ (if nat_le a b then OK else ROOM)
enough a b short room = ap (λ (t : Bool). if t then OK else ROOM) (sym (le-leb a b (omega arith)))
