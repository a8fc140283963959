-- What a stream by terms gives of its held octets, in pieces.
use mathlib.Core.Logic.{inl, inr}
use Rattle.ristulva_c.proofs.Below.{◌≡◌, ℕ, ◌≤◌, ◌⊎◌, false, not, List, [], ◌++◌, length, take, Result, Ok, Err, Some, refl, sym, ap, subst, ◌∙◌, arith, both_ways, nat_le, if◌then◌else◌, take_all, AreOctets, HeadFault}
use Rattle.bgp_frame.specs.declared.kind.WideKind.{WideKind}
use Rattle.bgp_frame.specs.Step.{StepIn}
use Rattle.bgp_frame.specs.Prelude.{IsContentIn, MessageIn, ShowsFrontIn, ShowsStepIn, StopsIn, TakesIn, WaitsIn}
use Rattle.bgp_frame.specs.steps.AreTypes.{wide-are}
use Rattle.bgp_frame.proofs.FrameLemmas.{Stops-wanted}
use Rattle.bgp_frame.proofs.Holding.{front_held}
use Rattle.bgp_frame.proofs.Hearings.{content_is, content_stops, counts_nothing, not_whole, pull_waits, taken_up, took_none}
use Rattle.bgp_terms.specs.Prelude.{Agreed}
use Rattle.bgp_wide.specs.declared.look.WideLook.TheVariants as look
use Rattle.bgp_wide.specs.Prelude.{Decoding, IsFed, IsLook, IsPulled, WideOutcome, decoder, fresh, given_by, grammar_of, holding, types_in}
use Rattle.bgp_wide.proofs.Pulls.{is_hearer, one_out, pulls_as_fed}
use Rattle.bgp_frame.specs.declared.fault.HeadFault.TheVariants as fault
use Rattle.bgp_msg.specs.Prelude.{of_fault}
use Rattle.ristulva_c.specs.declared.status.TheConstants.{OK, ROOM}
use Rattle.ristulva_c.specs.Prelude.{said_by}
use Rattle.ristulva_c.specs.Stream.{GivesHeld}
use Rattle.ristulva_c.proofs.Pulled.{enough}

-- ---- what is held is one message, or one fault

module _ (t : Agreed) (held : List ℕ) (o : WideOutcome) (gives : GivesHeld t held o) where
  stops : StopsIn (types_in t) held
  stops = content_stops (types_in t) (wide-are (grammar_of t.refresh)) gives.0 held gives.1.0

  pub not_more : WaitsIn (types_in t) held → ⊥
  not_more waits = not_whole (types_in t) (wide-are (grammar_of t.refresh)) held waits stops

  pub shows : AreOctets held → (s : StepIn WideKind) → ShowsFrontIn (types_in t) held s → ShowsStepIn (types_in t) held s
  shows are s front =
      let long = Stops-wanted (types_in t) (wide-are (grammar_of t.refresh)) held stops in
      front_held (types_in t) (wide-are (grammar_of t.refresh)) held s (record { octets = are; within = omega (arith, long.1) }) front

  pub outcome_of : (what : Result (MessageIn WideKind) HeadFault) → IsContentIn (types_in t) what held → o ≡ (given_by (fresh t) what).1
  outcome_of what is =
      let ty = types_in t in
      let okay = wide-are (grammar_of t.refresh) in
      let same : Some gives.0 ≡ Some what = sym (content_is ty okay gives.0 held gives.1.0) ∙ content_is ty okay what held is in
      gives.1.1 ∙ ap (λ (w : Result (MessageIn WideKind) HeadFault). (given_by (fresh t) w).1) (let one : gives.0 ≡ what = cc in one)

-- ---- how much of the piece is fed

module _ (d : Decoding) (piece : List ℕ) (n k : ℕ) (o : WideOutcome) (new : Decoding) (pulled : IsPulled d piece n (Some (k, o)) new) where
  pub within : n ≤ length piece
  within = pulled.pulls.takes.within

  pub either : (n ≡ 0) ⊎ (d.held ≡ [])
  either = pulled.pulls.one_place

  pub fed : IsFed d piece n (holding d (d.held ++ take n piece))
  fed = (pulls_as_fed d piece n (Some (k, o)) new pulled).fed

  pub gives : GivesHeld d.terms (d.held ++ take n piece) o
  gives =
      let whole : (what : Result (MessageIn WideKind) HeadFault) × (IsContentIn (types_in d.terms) what (d.held ++ take n piece) × ((k, o) ≡ given_by d what)) =
      (pulled.next.what, (pulled.next.is_held, one_out _ (k, o) new pulled.next)) in
      (whole.0, (whole.1.0, by_terms whole.0 (ap (λ (out : ℕ × WideOutcome). out.1) whole.1.1)))
    where
      by_terms : (what : Result (MessageIn WideKind) HeadFault) → o ≡ (given_by d what).1 → o ≡ (given_by (fresh d.terms) what).1
      by_terms (Ok m) is = is
      by_terms (Err f) is = is

-- ---- what is incomplete after a feed

pub waits : (d : Decoding) → d.stopped ≡ false → IsLook d [] look.Feed → WaitsIn (types_in d.terms) d.held
waits d going looks =
    let h = decoder d.terms in
    let ty = types_in d.terms in
    let okay = wide-are (grammar_of d.terms.refresh) in
    let pulled = looks 0 d (counts_nothing ty okay (not d.stopped) d.held, sym (took_none h (is_hearer d.terms) d [] 0 refl)) in
    pull_waits h (is_hearer d.terms) d [] 0 d (λ over. absurd (both_ways (not d.stopped) over (ap not going))) pulled

-- the whole piece is fed where what is held then is less than a message
pub all_fed : (d : Decoding) (piece : List ℕ) (n : ℕ) (new : Decoding) → d.stopped ≡ false → IsFed d piece n new → WaitsIn (types_in d.terms) new.held
    → (n ≡ length piece) × (d.held ++ take n piece ≡ d.held ++ piece)
all_fed d piece n new going fed waits =
    let ty = types_in d.terms in
    let okay = wide-are (grammar_of d.terms.refresh) in
    let counts = taken_up ty okay (not d.stopped) d.held piece n (ap not going) fed.0 in
    let all = whole_of counts.0 (subst (WaitsIn ty) (ap (λ (x : Decoding). x.held) fed.1) waits) in
    (all, ap (λ (x : List ℕ). d.held ++ x) (take_all n piece (omega (arith, all))))
  where
    whole_of : TakesIn (types_in d.terms) d.held piece n → WaitsIn (types_in d.terms) (d.held ++ take n piece) → n ≡ length piece
    whole_of takes less = elim takes.all_or_stops [ inl all ↦ all | inr stops ↦ absurd (not_whole (types_in d.terms) (wide-are (grammar_of d.terms.refresh)) (d.held ++ take n piece) less stops) ]

-- ---- a header's fault

-- data of a NOTIFICATION always fit in this room
pub fault_fits : (f : HeadFault) (room : ℕ) → 4075 ≤ room → OK ≡ (if nat_le (length (said_by (of_fault f)).info.items) room then OK else ROOM)
fault_fits fault.Marker room ample = enough 0 room (omega arith) ample
fault_fits (fault.Length n) room ample = enough 2 room (omega arith) ample
fault_fits (fault.Kind code) room ample = enough 1 room (omega arith) ample
