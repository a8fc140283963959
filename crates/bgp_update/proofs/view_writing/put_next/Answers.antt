use Rattle.bgp_wire.proofs.Std.{◌≡◌, get_or, true, refl, ◌++◌, take, flat_map, on_ok_weaker, on_err_weaker}
use Rattle.bgp_attr.specs.declared.attr.Attr.{Attr}
use Rattle.bgp_attr.specs.Prelude.{canonical, is_writable}
use Rattle.bgp_wire.proofs.Writes.{IsWritten}
use Rattle.bgp_update.specs.Prelude.{with_others, slot}
use Rattle.bgp_update.specs.declared.attrs.TheConstants.{RECOGNISED}
use Rattle.bgp_update.proofs.SlotSteps.{so_far, all_of_type, type_written, type_lacks, written_more, asks_nothing}
use Rattle.bgp_update.proofs.view_writing.put_next.Goals as goal

pub put_slot-requires : goal.put_slot-requires
put_slot-requires g c =
    let attrs = with_others c.args.kept.now (g.S.OfType.others c.args.others.now) in
    let writable = all_of_type (slot attrs) RECOGNISED g.row.AT (get_or RECOGNISED g.row.AT 0) c.requires.at refl (λ a. is_writable c.args.ctx.now a ≡ true) c.requires.writable in
    λ k. ((refl, tt), writable)

pub returns : goal.returns
returns g c start before =
    let written = g.O.Output.written in
    let attrs = with_others c.args.kept.now (g.S.OfType.others c.args.others.now) in
    let octets = canonical c.args.ctx.now in
    let nothing : Attr → Type 0 = λ (a : Attr). Unit {0} in
    let kind = get_or RECOGNISED g.row.AT 0 in
    let old = written c.args.out.now in
    let new = written c.put_slot.new.out in
    let there : old ≡ start ++ flat_map octets (flat_map (slot attrs) (take g.row.AT RECOGNISED)) = rw c.in_ok-before.was at before.ok in
    let is : IsWritten octets nothing (so_far (slot attrs) RECOGNISED g.row.AT) start old = record { items = there; ranges = asks_nothing (so_far (slot attrs) RECOGNISED g.row.AT) } in
    record {
      ok = on_ok_weaker c.put_slot.result (λ more. (type_written (slot attrs) RECOGNISED g.row.AT kind c.requires.at refl octets nothing start old is new more (asks_nothing (slot attrs kind))).items) c.put_slot.ensures.ok;
      err = on_err_weaker c.put_slot.result (λ more. written_more octets nothing (so_far (slot attrs) RECOGNISED g.row.AT) start old new is more) c.put_slot.ensures.err;
      full = on_err_weaker c.put_slot.result (λ full. type_lacks (slot attrs) RECOGNISED g.row.AT kind c.requires.at refl octets nothing start old is g.O.Output.room full) c.put_slot.ensures.full;
    }
