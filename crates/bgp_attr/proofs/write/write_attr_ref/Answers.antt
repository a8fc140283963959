use Rattle.std.proofs.lemmas.Result.{on_ok_weaker}
use Rattle.bgp_attr.specs.Prelude.{ref_value}
use Rattle.bgp_attr.proofs.EachType.{written-kept}
use Rattle.bgp_attr.proofs.write.write_attr_ref.Goals as goal

pub returns-clause-kept : goal.returns-clause-kept
returns-clause-kept c =
    on_ok_weaker c.put_attr.result (λ ranges has_nlri belongs. written-kept c.args.ctx.now has_nlri (ref_value c.args.attr) ranges c.requires belongs) c.put_attr.ensures.ranges
