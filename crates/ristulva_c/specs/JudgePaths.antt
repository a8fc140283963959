-- The outcome of a message whose routes have path identifiers (RFC 7911), in numbers.
use Rattle.std.specs.Prelude.{◌≡◌, ℕ, Bool, true, false, ◌&&◌, ◌||◌, List, Option, None, Some}
use Rattle.bgp_numbers.specs.declared.message.TheConstants.{UPDATE}
use Rattle.bgp_frame.specs.declared.kind.WideKind.{WideKind}
use Rattle.bgp_frame.specs.declared.step.Step.TheVariants as step
use Rattle.bgp_frame.specs.Step.{StepIn}
use Rattle.bgp_frame.specs.Prelude.{ShowsFrontIn}
use Rattle.bgp_open.specs.declared.context.Context.{Context}
use Rattle.bgp_update.specs.Prelude.{parts_of}
use Rattle.bgp_update.specs.Parts as update
use Rattle.bgp_msg.specs.Prelude.{of_fault}
use Rattle.bgp_paths.specs.declared.families.PathFamilies.{PathFamilies}
use Rattle.bgp_paths.specs.Prelude.{outcome_with}
use Rattle.bgp_terms.specs.Prelude.{Agreed}
use Rattle.bgp_wide.specs.Prelude.{types_in}
use Rattle.ristulva_c.specs.declared.status.TheConstants.{INCOMPLETE, RANGE}
use Rattle.ristulva_c.specs.Judge.{IsLeft, IsTold, Judging, verdict_told}
use Rattle.ristulva_c.specs.JudgeIn.{JudgesFrame}
use Rattle.ristulva_c.specs.Parts.{Lie, parts_told}
use Rattle.ristulva_c.specs.Paths.{is_update}

-- that outcome is written, with the offsets of the parts as they were received
pub record JudgesUpdate (ctx : Context) (f : PathFamilies) (octets : List ℕ) (len : ℕ) (body : List ℕ) (j : Judging) : Type 0 where
  pub told : IsTold (verdict_told UPDATE len (parts_told (parts_of body)) (outcome_with ctx f body)) (outcome_with ctx f body) j
  pub lie : (p : update.Parts) → parts_of body ≡ Some p → Lie octets p (parts_told (Some p))

abbrev pub JudgesWith : Bool → Agreed → PathFamilies → List ℕ → WideKind → ℕ → List ℕ → Judging → Type 0
JudgesWith true t f octets kind len body j = JudgesUpdate t.context f octets len body j
JudgesWith false t f octets kind len body j = JudgesFrame t octets kind len body j

-- some routes have path identifiers, and the message is an UPDATE
abbrev pub is_identified : PathFamilies → WideKind → Bool
is_identified f kind = (f.ip4 || f.ip6) && is_update kind

abbrev pub AnswersWith : Agreed → PathFamilies → List ℕ → StepIn WideKind → Judging → Type 0
AnswersWith t f octets step.More j = IsLeft INCOMPLETE j
AnswersWith t f octets (step.Frame fr) j = JudgesWith (is_identified f fr.kind) t f octets fr.kind fr.len fr.body.now j
AnswersWith t f octets (step.Fault fault) j = IsTold (verdict_told 0 0 (parts_told None) (of_fault fault)) (of_fault fault) j

pub record IsJudgedIn (t : Agreed) (f : PathFamilies) (octets : List ℕ) (j : Judging) : Type 0 where
  pub found : StepIn WideKind
  pub shows : ShowsFrontIn (types_in t) octets found
  pub answers : AnswersWith t f octets found j

-- by terms, or nothing is written where there are none
abbrev pub IsJudgedBy : Option Agreed → PathFamilies → List ℕ → Judging → Type 0
IsJudgedBy None f octets j = IsLeft RANGE j
IsJudgedBy (Some t) f octets j = IsJudgedIn t f octets j
