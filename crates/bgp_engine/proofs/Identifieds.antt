-- What is written of an UPDATE whose routes have path identifiers.
use Rattle.bgp_engine.proofs.Prelude.{◌≡◌, ◌++◌, ◌∙◌, ℕ, List, refl, sym, ap, is_last, Context}
use Rattle.bgp_engine.specs.Below.{Outcome, is_reset, out_of}
use Rattle.bgp_frame.specs.declared.kind.Kind.TheVariants as kinds
use Rattle.bgp_paths.specs.declared.families.PathFamilies.{PathFamilies}
use Rattle.bgp_paths.specs.Prelude.{PathNumbers, as_received, numbers_in, outcome_with, place_between, plain_body}
use Rattle.bgp_update.specs.Prelude.{parts_of}
use Rattle.bgp_engine.specs.declared.class.Class.{Class}
use Rattle.bgp_engine.specs.Identified.{Showing, received_at, used_numbers}
use Rattle.bgp_engine.specs.Explain.{fault_between, identified_fault}
use Rattle.bgp_engine.specs.Show.{class_of}
use Rattle.bgp_engine.specs.steps.PageSteps.{WritesIdentified}

ends_as : (o : Outcome) → is_reset o ≡ is_last (class_of o)
ends_as (Outcome.Took m notes) = refl
ends_as (Outcome.Withdraw routes notes) = refl
ends_as (Outcome.Reset n) = refl

-- the text of an UPDATE with path identifiers is that of its outcome without them
pub writes_identified : (shown : Showing) (f : PathFamilies) (ctx : Context) (old new : List ℕ) (place len : ℕ) (body bare : List ℕ) (ids : PathNumbers) (received : ℕ → ℕ) (o : Outcome) (class : Class)
    → bare ≡ plain_body f body → ids ≡ used_numbers ctx.ip4 (numbers_in f (parts_of body)) → ((at : ℕ) → received at ≡ place_between (parts_of bare) (parts_of body) at)
    → o ≡ as_received body (out_of ctx (record { kind = kinds.Update; body = bare })) → new ≡ old ++ shown ids received place len o → class ≡ class_of o
    → WritesIdentified shown f ctx old new place len body (outcome_with ctx f body) class
writes_identified shown f ctx old new place len body bare ids received o class is numbers places comes told counts =
    let same : o ≡ outcome_with ctx f body = comes ∙ ap (λ (b : List ℕ). as_received body (out_of ctx (record { kind = kinds.Update; body = b }))) is in
    let at_place : received ≡ received_at f body = λ i at. (places at ∙ ap (λ (b : List ℕ). place_between (parts_of b) (parts_of body) at) is) i in
    record {
      told = told ∙ ap (λ (t : List ℕ). old ++ t) (λ i. shown (numbers i) (at_place i) place len (same i));
      counts = counts ∙ ap class_of same;
      ends = sym (ap is_reset same) ∙ (ends_as o ∙ ap is_last (sym counts));
    }

-- why it is answered by a reset
pub fault_same : (ctx : Context) (f : PathFamilies) (body bare plain : List ℕ) (received : ℕ → ℕ) (o : Outcome)
    → plain ≡ bare → bare ≡ plain_body f body → ((at : ℕ) → received at ≡ place_between (parts_of bare) (parts_of body) at)
    → o ≡ as_received body (out_of ctx (record { kind = kinds.Update; body = bare }))
    → fault_between ctx f body plain received o ≡ identified_fault ctx f body (outcome_with ctx f body)
fault_same ctx f body bare plain received o read is places comes =
    let same : o ≡ outcome_with ctx f body = comes ∙ ap (λ (b : List ℕ). as_received body (out_of ctx (record { kind = kinds.Update; body = b }))) is in
    let at_place : received ≡ received_at f body = λ i at. (places at ∙ ap (λ (b : List ℕ). place_between (parts_of b) (parts_of body) at) is) i in
    λ i. fault_between ctx f body ((read ∙ is) i) (at_place i) (same i)
