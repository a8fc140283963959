-- The outcome of a message by terms, in numbers.
use Rattle.std.specs.Prelude.{◌≡◌, ℕ, List, Option, None, Some, Ok, Err}
use Rattle.bgp_numbers.specs.declared.message.TheConstants.{ROUTE_REFRESH}
use Rattle.bgp_frame.specs.declared.kind.WideKind.{WideKind}
use Rattle.bgp_frame.specs.declared.kind.WideKind.TheVariants as wide
use Rattle.bgp_frame.specs.declared.step.Step.TheVariants as step
use Rattle.bgp_frame.specs.Step.{StepIn}
use Rattle.bgp_frame.specs.Prelude.{ShowsFrontIn}
use Rattle.bgp_msg.specs.Prelude.{of_fault}
use Rattle.bgp_msg.specs.declared.outcome.Outcome.TheVariants as outcome
use Rattle.bgp_terms.specs.Prelude.{Agreed}
use Rattle.bgp_wide.specs.Prelude.{Refreshed, refreshed, types_in}
use Rattle.ristulva_c.specs.declared.judge.Verdict.{Verdict}
use Rattle.ristulva_c.specs.declared.judge_in.TheConstants.{REFRESH}
use Rattle.ristulva_c.specs.declared.status.TheConstants.{INCOMPLETE, OK, RANGE}
use Rattle.ristulva_c.specs.Judge.{IsJudged, IsLeft, IsTold, Judging, verdict_told}
use Rattle.ristulva_c.specs.Parts.{parts_told}

-- a ROUTE-REFRESH of this length is accepted
abbrev pub refresh_verdict : ℕ → Verdict
refresh_verdict len = record { verdict = REFRESH; kind = ROUTE_REFRESH; code = 0; subcode = 0; len = len; info_len = 0; parts = parts_told None }

pub record IsAccepted (len : ℕ) (j : Judging) : Type 0 where
  pub status : j.status ≡ OK
  pub out : j.behind ≡ refresh_verdict len
  pub info : j.info_behind ≡ j.info_before

-- it is accepted, or the data of the NOTIFICATION for its fault are copied where there is room
abbrev pub IsRefreshTold : ℕ → Refreshed → Judging → Type 0
IsRefreshTold len (Ok r) j = IsAccepted len j
IsRefreshTold len (Err n) j = IsTold (verdict_told ROUTE_REFRESH len (parts_told None) (outcome.Reset n)) (outcome.Reset n) j

-- a message of RFC 4271 is judged as by `ristulva_judge` in the context of the terms
abbrev pub JudgesFrame : Agreed → List ℕ → WideKind → ℕ → List ℕ → Judging → Type 0
JudgesFrame t octets (wide.Base kind) len body j = IsJudged t.context octets j
JudgesFrame t octets wide.Refresh len body j = IsRefreshTold len (refreshed t.refresh body) j

-- by what the octets begin with: less than a message, a message, or a header with a fault
abbrev pub AnswersIn : Agreed → List ℕ → StepIn WideKind → Judging → Type 0
AnswersIn t octets step.More j = IsLeft INCOMPLETE j
AnswersIn t octets (step.Frame f) j = JudgesFrame t octets f.kind f.len f.body.now j
AnswersIn t octets (step.Fault fault) j = IsTold (verdict_told 0 0 (parts_told None) (of_fault fault)) (of_fault fault) j

pub record IsJudgedIn (t : Agreed) (octets : List ℕ) (j : Judging) : Type 0 where
  pub found : StepIn WideKind
  pub shows : ShowsFrontIn (types_in t) octets found
  pub answers : AnswersIn t octets found j

-- by terms, or nothing is written where there are none
abbrev pub IsJudgedBy : Option Agreed → List ℕ → Judging → Type 0
IsJudgedBy None octets j = IsLeft RANGE j
IsJudgedBy (Some t) octets j = IsJudgedIn t octets j
