use Rattle.bgp_engine.proofs.Prelude.{ap, ◌∙◌, rules, class_of}
use Rattle.bgp_engine.proofs.explaining.ExplainPage.put_frame.Goals as goal

pub returns-clause-writes : goal.returns-clause-writes
returns-clause-writes g c = record {
  told = rw (c.in_ok-put_octets.ensures, c.fault_of-fault.ensures, c.view_frame-outcome.ensures) at c.in_ok-put.ensures.lines;
  counts = c.class_of.ensures ∙ ap class_of c.view_frame-outcome.ensures;
  ends = search rules;
}
