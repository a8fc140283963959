use Rattle.std.specs.Prelude.{option_map}
use Rattle.bgp_attr.specs.declared.attr.Attr.TheVariants as attr
use Rattle.bgp_attr.specs.Prelude.{path_value, as4_path_value}
use Rattle.bgp_update.specs.Prelude.{wide_path}
use Rattle.bgp_update.proofs.ToldPaths.{nothing_there, one_there, one_writable, unchanged}
use Rattle.bgp_update.proofs.narrow_writing.put_wide_path.Goals as goal

pub write_attr_view-requires : goal.write_attr_view-requires
write_attr_view-requires c =
    one_writable attr.As4Path (wide_path (option_map path_value c.args.path)) c.args.ctx.now c.args.out.now.items c.args.out.now.items
    (as4_path_value c.in-Some.value) c.in-Some.ensures c.requires

pub returns-in-None-clause-ok : goal.returns-in-None-clause-ok
returns-in-None-clause-ok c =
    nothing_there attr.As4Path (wide_path (option_map path_value c.args.path)) c.args.ctx.now c.args.out.now.items c.args.out.now.items c.in-None.ensures

pub returns-in-Some-clause-ok : goal.returns-in-Some-clause-ok
returns-in-Some-clause-ok c =
    one_there attr.As4Path (wide_path (option_map path_value c.args.path)) c.args.ctx.now c.args.out.now.items c.write_attr_view.new.out.items
    c.write_attr_view.result (as4_path_value c.in-Some.value) c.in-Some.ensures c.write_attr_view.ensures.ok

pub returns-in-Some-clause-err : goal.returns-in-Some-clause-err
returns-in-Some-clause-err c = unchanged c.write_attr_view.result c.args.out.now.items c.write_attr_view.new.out.items c.write_attr_view.ensures.err
