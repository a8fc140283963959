-- What private functions write of a whole message by terms.
use Rattle.std.specs.Prelude.{ℕ, List}
use denote.Ref.{Bor}
use Rattle.bgp_frame.specs.declared.kind.WideKind.{WideKind}
use Rattle.bgp_frame.specs.declared.kind.WideKind.TheVariants as wide
use Rattle.bgp_frame.specs.declared.step.Step.TheVariants as step
use Rattle.bgp_frame.specs.Prelude.{Types, wide_types}
use Rattle.bgp_open.specs.declared.context.Context.{Context}
use Rattle.bgp_terms.specs.declared.refreshes.Refreshes.{Refreshes}
use Rattle.bgp_wide.specs.Prelude.{grammar_of, refreshed}
use Rattle.ristulva_c.specs.Judge.{Answers, Judging}
use Rattle.ristulva_c.specs.JudgeIn.{IsRefreshTold}

abbrev pub types_for : Refreshes → Types WideKind
types_for accepted = wide_types (grammar_of accepted)

abbrev pub FrameAnswers : Context → Refreshes → WideKind → ℕ → Bor (List ℕ) → Judging → Type 0
FrameAnswers ctx accepted (wide.Base kind) len body j = Answers ctx (step.Frame (record { kind = kind; body = body; len = len })) j
FrameAnswers ctx accepted wide.Refresh len body j = IsRefreshTold len (refreshed accepted body.now) j
