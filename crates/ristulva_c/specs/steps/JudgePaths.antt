-- What private functions write of a whole message whose routes may have path identifiers.
use Rattle.std.specs.Prelude.{ℕ, Bool, true, false, List}
use denote.Ref.{Bor}
use Rattle.bgp_numbers.specs.declared.message.TheConstants.{UPDATE}
use Rattle.bgp_frame.specs.declared.kind.WideKind.{WideKind}
use Rattle.bgp_open.specs.declared.context.Context.{Context}
use Rattle.bgp_update.specs.Prelude.{parts_of}
use Rattle.bgp_paths.specs.declared.families.PathFamilies.{PathFamilies}
use Rattle.bgp_paths.specs.Prelude.{outcome_with}
use Rattle.bgp_terms.specs.declared.refreshes.Refreshes.{Refreshes}
use Rattle.ristulva_c.specs.Judge.{IsTold, Judging, verdict_told}
use Rattle.ristulva_c.specs.Parts.{parts_told}
use Rattle.ristulva_c.specs.steps.JudgeIn.{FrameAnswers}

-- by whether it is an UPDATE of which some routes have path identifiers
abbrev pub WithPaths : Bool → Context → PathFamilies → Refreshes → WideKind → ℕ → Bor (List ℕ) → Judging → Type 0
WithPaths true ctx f accepted kind len body j =
    IsTold (verdict_told UPDATE len (parts_told (parts_of body.now)) (outcome_with ctx f body.now)) (outcome_with ctx f body.now) j
WithPaths false ctx f accepted kind len body j = FrameAnswers ctx accepted kind len body j
