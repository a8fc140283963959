-- What the ROUTE-REFRESH that octets begin with says, in numbers (RFC 2918, section 3; RFC 7313, section 3.2).
use Rattle.std.specs.Prelude.{◌≡◌, ℕ, List, length, Option, None, Some, Result, Ok, Err}
use Rattle.bgp_frame.specs.declared.kind.WideKind.{WideKind}
use Rattle.bgp_frame.specs.declared.kind.WideKind.TheVariants as wide
use Rattle.bgp_frame.specs.declared.step.Step.TheVariants as step
use Rattle.bgp_frame.specs.Step.{StepIn}
use Rattle.bgp_frame.specs.Prelude.{ShowsFrontIn}
use Rattle.bgp_refresh.specs.declared.fault.RefreshFault.{RefreshFault}
use Rattle.bgp_refresh.specs.Prelude.{Refresh, refresh_of, subtype_of}
use Rattle.bgp_terms.specs.declared.refreshes.Refreshes.{Refreshes}
use Rattle.bgp_terms.specs.Prelude.{Agreed}
use Rattle.bgp_wide.specs.Prelude.{types_in}
use Rattle.ristulva_c.specs.declared.refresh.ToldRefresh.{ToldRefresh}
use Rattle.ristulva_c.specs.declared.status.TheConstants.{INCOMPLETE, OK, RANGE, REFUSED}
use Rattle.ristulva_c.specs.Span.{octets_in}

-- what follows the four octets begins after the header and these
abbrev pub refresh_told : Refresh → ToldRefresh
refresh_told r = record { afi = r.afi; safi = r.safi; subtype = subtype_of r.mark; rest = record { at = 23; len = length r.rest } }

abbrev pub accepted : Result Refresh RefreshFault → Result Refresh ℕ
accepted (Ok r) = Ok r
accepted (Err fault) = Err REFUSED

-- that of a whole message, or the status where it is none that is accepted
abbrev pub refresh_in : Refreshes → WideKind → List ℕ → Result Refresh ℕ
refresh_in refreshes (wide.Base kind) body = Err REFUSED
refresh_in refreshes wide.Refresh body = accepted (refresh_of refreshes body)

abbrev pub refresh_at : Agreed → StepIn WideKind → Result Refresh ℕ
refresh_at t step.More = Err INCOMPLETE
refresh_at t (step.Frame f) = refresh_in t.refresh f.kind f.body.now
refresh_at t (step.Fault fault) = Err REFUSED

-- what it says is written, and the octets of the span are those that follow the four; else nothing is
abbrev pub Says : List ℕ → Result Refresh ℕ → ℕ → ToldRefresh → ToldRefresh → Type 0
Says octets (Ok r) status before behind = (status ≡ OK) × ((behind ≡ refresh_told r) × (octets_in behind.rest octets ≡ r.rest))
Says octets (Err answer) status before behind = (status ≡ answer) × (behind ≡ before)

pub record IsRefresh (t : Agreed) (octets : List ℕ) (status : ℕ) (before behind : ToldRefresh) : Type 0 where
  pub found : StepIn WideKind
  pub shows : ShowsFrontIn (types_in t) octets found
  pub says : Says octets (refresh_at t found) status before behind

-- by terms, or nothing is written where there are none
abbrev pub IsRefreshBy : Option Agreed → List ℕ → ℕ → ToldRefresh → ToldRefresh → Type 0
IsRefreshBy None octets status before behind = (status ≡ RANGE) × (behind ≡ before)
IsRefreshBy (Some t) octets status before behind = IsRefresh t octets status before behind
