use Rattle.bgp_wire.proofs.Std.{length, refl, sym, ltb-false, on_ok_weaker}
use Rattle.bgp_attr.specs.Prelude.{is_empty}
use Rattle.bgp_update.specs.Prelude.{attr_list, written_body}
use Rattle.bgp_update.proofs.Lists.{none-all}
use Rattle.bgp_update.proofs.ReadBack.{valid-taken}
use Rattle.bgp_update.proofs.Validity.{valid-accepted}
use Rattle.bgp_update.proofs.write.write_update.Goals as goal

pub append_valid-requires : goal.append_valid-requires
append_valid-requires c =
    none-all is_empty (attr_list c.args.update.now.attrs) (valid-accepted c.args.ctx.now c.args.update.now (sym c.in_default.ensures.why)).some

pub returns-clause-taken : goal.returns-clause-taken
returns-clause-taken c =
    on_ok_weaker c.append_valid.result
    (λ p.
    valid-taken c.args.ctx.now c.args.update.now
    (record { withdrawn = (p.1).withdrawn; attributes = (p.1).attributes; others = c.in_default.ensures.kinds refl; nlri = (p.1).nlri })
    (sym c.in_default.ensures.why) (ltb-false 4077 (length (written_body c.args.ctx.now c.args.update.now)) p.0))
    c.append_valid.ensures.fits
