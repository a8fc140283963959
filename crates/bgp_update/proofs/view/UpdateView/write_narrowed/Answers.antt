use Rattle.bgp_wire.proofs.Std.{◌≡◌, true, sym, arith, subst, AllByRecursion}
use Rattle.bgp_open.specs.declared.context.Context.{Context}
use Rattle.bgp_attr.specs.Prelude.{is_writable}
use Rattle.bgp_update.specs.Prelude.{narrowed, attr_list, update_value}
use Rattle.bgp_update.proofs.Layouts.{third_within}
use Rattle.bgp_update.proofs.ToldAttributes.{told_writable}
use Rattle.bgp_update.proofs.view.UpdateView.write_narrowed.Goals as goal

pub put_parts-requires-clause-writable : goal.put_parts-requires-clause-writable
put_parts-requires-clause-writable c =
    let u = update_value c.args.self.now in
    subst (λ (x : Context). AllByRecursion (λ a. is_writable x a ≡ true) (attr_list (narrowed u.attrs))) (sym c.two_octets-narrow.ensures) (told_writable c.args.ctx.now u c.requires)

pub set_lengths-requires-clause-withdrawn : goal.set_lengths-requires-clause-withdrawn
set_lengths-requires-clause-withdrawn c = omega (arith, c.in-Ok.ensures.ok.second, c.len-start.ensures)

pub set_lengths-requires-clause-attributes : goal.set_lengths-requires-clause-attributes
set_lengths-requires-clause-attributes c = omega (arith, c.in-Ok.ensures.ok.third)

pub set_lengths-requires-clause-nlri : goal.set_lengths-requires-clause-nlri
set_lengths-requires-clause-nlri c = third_within _ _ _ _ _ _ c.in-Ok.places c.in-Ok.ensures.ok

pub set_lengths-requires-clause-small : goal.set_lengths-requires-clause-small
set_lengths-requires-clause-small c = omega (arith, c.if-len-start-gt-LONGEST_BODY.false, c.len.ensures)
