use Rattle.std.proofs.Common.{ap, sym, ◌∙◌, rules}
use Rattle.bgp_script.specs.Lines.{next_told}
use Rattle.bgp_script.proofs.Telling.{skips, tells, ends}
use Rattle.bgp_script.proofs.lines.Lines.take.Goals as goal

pub lines-init : goal.lines-init
lines-init c = record { same = ap next_told c.self.view_is; within = c.self.invariant }

pub returns-then-not-is_skipped : goal.returns-then-not-is_skipped
returns-then-not-is_skipped c =
    tells c.lines.self-inside.count c.lines.self-inside.rest.now c.cut_line.result.0.now c.cut_line.result.1.now c.cut_line.ensures.lines (sym c.if-not-is_skipped.true ∙ c.is_skipped.ensures)
    ∙ c.lines.invariant.same

pub lines-preserved : goal.lines-preserved
lines-preserved c = record {
  same =
      skips c.lines.self-inside.count c.lines.self-inside.rest.now c.cut_line.result.0.now c.cut_line.result.1.now c.cut_line.ensures.lines (sym c.if-not-is_skipped.false ∙ c.is_skipped.ensures)
      ∙ c.lines.invariant.same;
  within = search rules;
}

pub returns : goal.returns
returns c = ends c.lines.self-inside.count c.lines.self-inside.rest.now (sym c.lines-test.false ∙ c.is_empty.ensures) ∙ c.lines.invariant.same
