use Rattle.std.proofs.Common.{sym, ap, ◌∙◌}
use Rattle.bgp_attr.specs.Prelude.{decided, tlv_value, AttributeType}
use Rattle.bgp_attr.proofs.TestRows.{row-other}
use Rattle.bgp_attr.proofs.judging.rule.Goals as goal

pub returns-in-None : goal.returns-in-None
returns-in-None c a = c.rule_other.ensures a ∙ ap (λ (type : AttributeType). decided type.tests a) (sym (row-other c.args.ctx.now c.args.has_nlri (tlv_value c.args.tlv.now) c.in-None.ensures))
