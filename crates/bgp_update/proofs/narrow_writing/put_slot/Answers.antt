use Rattle.bgp_wire.proofs.Std.{ℕ, ◌++◌, Option, sym, ap, ◌∙◌, flat_map}
use Rattle.std.specs.Prelude.{option_map}
use Rattle.bgp_attr.specs.declared.aggregator.Aggregator.{Aggregator}
use Rattle.bgp_attr.specs.declared.attr.Attr.TheVariants as attr
use Rattle.bgp_attr.specs.declared.path.AsPath.{AsPath}
use Rattle.bgp_attr.specs.Prelude.{path_value, canonical}
use Rattle.bgp_update.specs.Slots.{slot}
use Rattle.bgp_update.specs.Prelude.{present, narrow_path, narrow_aggregator, wide_path, wide_aggregator, told_attrs}
use Rattle.bgp_update.proofs.ToldPaths.{nothing_there, one_there, unchanged, written_same}
use Rattle.bgp_update.proofs.narrow_writing.put_slot.Goals as goal

pub returns-in-2-clause-ok : goal.returns-in-2-clause-ok
unfolding slot
returns-in-2-clause-ok c =
    let told = told_attrs c.args.kept.now c.args.others.now.row.now in
    written_same (canonical c.args.ctx.now) c.put_told_path.result (present attr.AsPath (option_map narrow_path (option_map path_value c.as_path.result))) (slot told c.args.kind) c.args.out.now.items c.put_told_path.new.out.items
    (ap (λ (o : Option AsPath). present attr.AsPath (option_map narrow_path o)) c.as_path.ensures ∙ ap (λ (k : ℕ). slot told k) (sym c.in-2.is)) c.put_told_path.ensures.ok

pub returns-in-2-clause-err : goal.returns-in-2-clause-err
returns-in-2-clause-err c = c.put_told_path.ensures.err

pub returns-in-None-clause-ok : goal.returns-in-None-clause-ok
unfolding slot
returns-in-None-clause-ok c =
    let told = told_attrs c.args.kept.now c.args.others.now.row.now in
    nothing_there attr.Aggregator told.aggregator c.args.ctx.now c.args.out.now.items c.args.out.now.items
    (c.in-None.ensures ∙ ap (λ (o : Option Aggregator). option_map narrow_aggregator o) c.aggregator.ensures)
    ∙ ap (λ (k : ℕ). c.args.out.now.items ++ flat_map (canonical c.args.ctx.now) (slot told k)) (sym c.in-7.is)

pub returns-in-Some-clause-ok : goal.returns-in-Some-clause-ok
unfolding slot
returns-in-Some-clause-ok c =
    let told = told_attrs c.args.kept.now c.args.others.now.row.now in
    written_same (canonical c.args.ctx.now) c.write_attr_view.result (present attr.Aggregator told.aggregator) (slot told c.args.kind) c.args.out.now.items c.write_attr_view.new.out.items
    (ap (λ (k : ℕ). slot told k) (sym c.in-7.is))
    (one_there attr.Aggregator told.aggregator c.args.ctx.now c.args.out.now.items c.write_attr_view.new.out.items c.write_attr_view.result c.in-Some.value
    (c.in-Some.ensures ∙ ap (λ (o : Option Aggregator). option_map narrow_aggregator o) c.aggregator.ensures) c.write_attr_view.ensures.ok)

pub returns-in-Some-clause-err : goal.returns-in-Some-clause-err
returns-in-Some-clause-err c = unchanged c.write_attr_view.result c.args.out.now.items c.write_attr_view.new.out.items c.write_attr_view.ensures.err

pub returns-in-17-clause-ok : goal.returns-in-17-clause-ok
unfolding slot
returns-in-17-clause-ok c =
    let told = told_attrs c.args.kept.now c.args.others.now.row.now in
    written_same (canonical c.args.ctx.now) c.put_wide_path.result (present attr.As4Path (wide_path (option_map path_value c.as_path-in-17.result))) (slot told c.args.kind) c.args.out.now.items c.put_wide_path.new.out.items
    (ap (λ (o : Option AsPath). present attr.As4Path (wide_path o)) c.as_path-in-17.ensures ∙ ap (λ (k : ℕ). slot told k) (sym c.in-17.is)) c.put_wide_path.ensures.ok

pub returns-in-17-clause-err : goal.returns-in-17-clause-err
returns-in-17-clause-err c = c.put_wide_path.ensures.err

pub returns-in-None-wide_aggregator-clause-ok : goal.returns-in-None-wide_aggregator-clause-ok
unfolding slot
returns-in-None-wide_aggregator-clause-ok c =
    let told = told_attrs c.args.kept.now c.args.others.now.row.now in
    nothing_there attr.As4Aggregator told.as4_aggregator c.args.ctx.now c.args.out.now.items c.args.out.now.items
    (c.in-None-wide_aggregator.ensures ∙ ap (λ (o : Option Aggregator). wide_aggregator o) c.aggregator-in-18.ensures)
    ∙ ap (λ (k : ℕ). c.args.out.now.items ++ flat_map (canonical c.args.ctx.now) (slot told k)) (sym c.in-18.is)

pub returns-in-Some-wide_aggregator-clause-ok : goal.returns-in-Some-wide_aggregator-clause-ok
unfolding slot
returns-in-Some-wide_aggregator-clause-ok c =
    let told = told_attrs c.args.kept.now c.args.others.now.row.now in
    let put = c.write_attr_view-in-Some-wide_aggregator in
    written_same (canonical c.args.ctx.now) put.result (present attr.As4Aggregator told.as4_aggregator) (slot told c.args.kind) c.args.out.now.items put.new.out.items
    (ap (λ (k : ℕ). slot told k) (sym c.in-18.is))
    (one_there attr.As4Aggregator told.as4_aggregator c.args.ctx.now c.args.out.now.items put.new.out.items put.result c.in-Some-wide_aggregator.value
    (c.in-Some-wide_aggregator.ensures ∙ ap (λ (o : Option Aggregator). wide_aggregator o) c.aggregator-in-18.ensures) put.ensures.ok)

pub returns-in-Some-wide_aggregator-clause-err : goal.returns-in-Some-wide_aggregator-clause-err
returns-in-Some-wide_aggregator-clause-err c =
    unchanged c.write_attr_view-in-Some-wide_aggregator.result c.args.out.now.items c.write_attr_view-in-Some-wide_aggregator.new.out.items c.write_attr_view-in-Some-wide_aggregator.ensures.err

pub returns-in_default-clause-err : goal.returns-in_default-clause-err
returns-in_default-clause-err c = c.put_present.ensures.err
