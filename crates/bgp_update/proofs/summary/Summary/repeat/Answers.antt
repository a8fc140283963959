use Rattle.std.proofs.Common.{sym, ◌∙◌}
use Rattle.bgp_attr.specs.declared.attr.Attr.TheVariants as attr
use Rattle.bgp_update.proofs.summary.Summary.repeat.Goals as goal

pub returns-clause-adds : goal.returns-clause-adds
returns-clause-adds c m is = c.refuse.ensures.adds attr.Atomic m (is ∙ sym (c.repeated.ensures.value c.args.tlv.now.whole.now attr.Atomic))
