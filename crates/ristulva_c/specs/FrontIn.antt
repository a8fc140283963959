-- What octets begin with by terms, in numbers (RFC 4271, sections 4.1 and 6.1; RFC 2918).
use Rattle.std.specs.Prelude.{◌≡◌, List, ℕ, Option, None, Some}
use Rattle.bgp_frame.specs.declared.kind.WideKind.{WideKind}
use Rattle.bgp_frame.specs.Step.{StepIn}
use Rattle.bgp_frame.specs.Prelude.{ShowsFrontIn, wanted_in, wide_code}
use Rattle.bgp_frame.specs.declared.step.Step.TheVariants as step
use Rattle.bgp_terms.specs.Prelude.{Agreed}
use Rattle.bgp_wide.specs.Prelude.{types_in}
use Rattle.ristulva_c.specs.declared.front.ToldFront.{ToldFront}
use Rattle.ristulva_c.specs.declared.front.TheConstants.{MORE, MESSAGE}
use Rattle.ristulva_c.specs.declared.status.TheConstants.{OK, RANGE}
use Rattle.ristulva_c.specs.Front.{fault_told}
use Rattle.ristulva_c.specs.Span.{no_span}

-- for less than a message, the number of octets wanted
abbrev pub step_told_in : Agreed → List ℕ → StepIn WideKind → ToldFront
step_told_in t octets step.More = record { what = MORE; kind = 0; code = 0; subcode = 0; len = wanted_in (types_in t) octets; info = no_span }
step_told_in t octets (step.Frame frame) = record { what = MESSAGE; kind = wide_code frame.kind; code = 0; subcode = 0; len = frame.len; info = no_span }
step_told_in t octets (step.Fault f) = fault_told f

-- the numbers describe what the octets begin with
pub record IsFoundIn (t : Agreed) (octets : List ℕ) (status : ℕ) (told : ToldFront) : Type 0 where
  pub status_is : status ≡ OK
  pub step : StepIn WideKind
  pub shows : ShowsFrontIn (types_in t) octets step
  pub numbers : told ≡ step_told_in t octets step

-- by terms, or nothing is written where there are none
abbrev pub IsFoundBy : Option Agreed → List ℕ → ℕ → ToldFront → ToldFront → Type 0
IsFoundBy None octets status before behind = (status ≡ RANGE) × (behind ≡ before)
IsFoundBy (Some t) octets status before behind = IsFoundIn t octets status behind
