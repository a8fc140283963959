use Rattle.std.proofs.Common.{sym}
use Rattle.ristulva_c.proofs.RouteLists.{cursor_is}
use Rattle.ristulva_c.proofs.route_list.cursor_of.Goals as goal

pub returns : goal.returns
returns c = λ p withdrawn field nlri.
    cursor_is c.args.ctx.now c.args.announces p c.args.withdrawn c.args.nlri c.args.field.now _ _ _ _ _ _ _ (sym withdrawn) (sym nlri) (sym field) c.first_of_type-unreach.ensures.value
    c.first_of_type-reach.ensures.value c.prefixes_at.ensures c.prefixes_at-2.ensures c.loses.ensures c.flag_of.ensures c.flag_of-2.ensures
