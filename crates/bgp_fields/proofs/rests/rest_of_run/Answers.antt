use Rattle.bgp_fields.proofs.Prelude.{sym, ◌∙◌, PrefixValue, IsPrefix, one_prefix, IsPrefix-reads}
use Rattle.bgp_fields.proofs.Leftovers.{rest-same, rest-shorter, rest-all}
use Rattle.bgp_fields.proofs.rests.rest_of_run.Goals as goal

pub run-smaller : goal.run-smaller
run-smaller c = rest-shorter PrefixValue (IsPrefix 4) (one_prefix 4) (IsPrefix-reads 4) c.run.rest.now c.in-Some.after.now c.in-Some.ensures

pub run-preserved : goal.run-preserved
run-preserved c = rest-same PrefixValue (IsPrefix 4) (one_prefix 4) (IsPrefix-reads 4) c.run.rest.now c.in-Some.after.now c.in-Some.ensures ∙ c.run.invariant

pub returns : goal.returns
returns c = sym (rest-all PrefixValue (IsPrefix 4) (one_prefix 4) (IsPrefix-reads 4) c.run.rest.now c.in_default.ensures) ∙ c.run.invariant
