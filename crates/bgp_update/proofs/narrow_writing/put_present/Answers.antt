use Rattle.bgp_wire.proofs.Std.{sym}
use Rattle.bgp_attr.specs.Prelude.{attr_value}
use Rattle.bgp_update.proofs.ToldPaths.{nothing_there, one_there, unchanged}
use Rattle.bgp_update.proofs.narrow_writing.put_present.Goals as goal

pub returns-in-None-clause-ok : goal.returns-in-None-clause-ok
returns-in-None-clause-ok c = nothing_there attr_value c.args.attr c.args.ctx.now c.args.out.now.items c.args.out.now.items (sym c.in-None.is)

pub returns-in-Some-clause-ok : goal.returns-in-Some-clause-ok
returns-in-Some-clause-ok c =
    one_there attr_value c.args.attr c.args.ctx.now c.args.out.now.items c.write_attr_view.new.out.items c.write_attr_view.result c.in-Some.attr (sym c.in-Some.is) c.write_attr_view.ensures.ok

pub returns-in-Some-clause-err : goal.returns-in-Some-clause-err
returns-in-Some-clause-err c = unchanged c.write_attr_view.result c.args.out.now.items c.write_attr_view.new.out.items c.write_attr_view.ensures.err
