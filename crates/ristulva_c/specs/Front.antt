-- What octets begin with, in numbers (RFC 4271, sections 4.1 and 6.1).
use Rattle.std.specs.Prelude.{◌≡◌, List, ℕ}
use Rattle.bgp_frame.specs.declared.fault.HeadFault.{HeadFault}
use Rattle.bgp_frame.specs.Step.{Step}
use Rattle.bgp_frame.specs.Prelude.{wanted, head_notification, code_of, ShowsFront}
use Rattle.bgp_frame.specs.declared.fault.HeadFault.TheVariants as fault
use Rattle.bgp_frame.specs.declared.step.Step.TheVariants as step
use Rattle.ristulva_c.specs.declared.front.ToldFront.{ToldFront}
use Rattle.ristulva_c.specs.declared.front.TheConstants.{MORE, MESSAGE, FAULT}
use Rattle.ristulva_c.specs.declared.span.Span.{Span}
use Rattle.ristulva_c.specs.Span.{no_span}

-- the span of the faulty field of a header: the Length, or the Type; for a Marker an empty one
abbrev pub fault_span : HeadFault → Span
fault_span fault.Marker = no_span
fault_span (fault.Length n) = record { at = 16; len = 2 }
fault_span (fault.Kind code) = record { at = 18; len = 1 }

-- a fault: the code and the subcode that answer it
abbrev pub fault_told : HeadFault → ToldFront
fault_told f = record {
  what = FAULT;
  kind = 0;
  code = (head_notification f).code;
  subcode = (head_notification f).subcode;
  len = 0;
  info = fault_span f;
}

-- for less than a message, the number of octets wanted
abbrev pub step_told : List ℕ → Step → ToldFront
step_told octets step.More = record { what = MORE; kind = 0; code = 0; subcode = 0; len = wanted octets; info = no_span }
step_told octets (step.Frame frame) = record { what = MESSAGE; kind = code_of frame.kind; code = 0; subcode = 0; len = frame.len; info = no_span }
step_told octets (step.Fault f) = fault_told f

-- the numbers describe what the octets begin with
pub record IsFound (octets : List ℕ) (told : ToldFront) : Type 0 where
  pub step : Step
  pub shows : ShowsFront octets step
  pub numbers : told ≡ step_told octets step
