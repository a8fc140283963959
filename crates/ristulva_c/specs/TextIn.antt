-- The printed form of a message by terms, in the caller's buffer.
use Rattle.std.specs.Prelude.{ℕ, List, Option, None, Some, Ok, Err}
use Rattle.bgp_frame.specs.declared.kind.WideKind.{WideKind}
use Rattle.bgp_frame.specs.declared.kind.WideKind.TheVariants as wide
use Rattle.bgp_frame.specs.declared.step.Step.TheVariants as step
use Rattle.bgp_frame.specs.Step.{StepIn}
use Rattle.bgp_frame.specs.Prelude.{ShowsFrontIn}
use Rattle.bgp_msg.specs.declared.outcome.Outcome.TheVariants as outcome
use Rattle.bgp_msg.specs.Prelude.{out_of, of_fault}
use Rattle.bgp_open.specs.declared.context.Context.{Context}
use Rattle.bgp_terms.specs.declared.refreshes.Refreshes.{Refreshes}
use Rattle.bgp_terms.specs.Prelude.{Agreed}
use Rattle.bgp_text.specs.Outcome.{outcome_lines}
use Rattle.bgp_text.specs.RefreshLine.{refresh_line}
use Rattle.bgp_wide.specs.Prelude.{Refreshed, refreshed, types_in}
use Rattle.ristulva_c.specs.declared.status.TheConstants.{RANGE}
use Rattle.ristulva_c.specs.Text.{IsLeft, Prints, Writing}

abbrev pub refresh_lines : ℕ → ℕ → Refreshed → List ℕ
refresh_lines place len (Ok r) = refresh_line place len r
refresh_lines place len (Err n) = outcome_lines place len (outcome.Reset n)

abbrev pub message_lines : Context → Refreshes → ℕ → WideKind → ℕ → List ℕ → List ℕ
message_lines ctx accepted place (wide.Base kind) len body = outcome_lines place len (out_of ctx (record { kind = kind; body = body }))
message_lines ctx accepted place wide.Refresh len body = refresh_lines place len (refreshed accepted body)

-- the lines of what octets begin with: none of less than a message
abbrev pub lines_in : Agreed → ℕ → StepIn WideKind → Option (List ℕ)
lines_in t place step.More = None
lines_in t place (step.Frame f) = Some (message_lines t.context t.refresh place f.kind f.len f.body.now)
lines_in t place (step.Fault fault) = Some (outcome_lines place 0 (of_fault fault))

-- the lines of what the octets begin with are written
pub record IsPrintedIn (t : Agreed) (place : ℕ) (octets : List ℕ) (w : Writing) : Type 0 where
  pub found : StepIn WideKind
  pub shows : ShowsFrontIn (types_in t) octets found
  pub prints : Prints (lines_in t place found) w

-- by terms, or nothing is written where there are none
abbrev pub IsPrintedBy : Option Agreed → ℕ → List ℕ → Writing → Type 0
IsPrintedBy None place octets w = IsLeft RANGE w
IsPrintedBy (Some t) place octets w = IsPrintedIn t place octets w
