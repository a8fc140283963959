use Rattle.ristulva_c.proofs.Below.{length, ap, ◌∙◌, arith, update_value}
use Rattle.ristulva_c.specs.Prelude.{withdrawn_row, no_prefix, unreached_rows, reached_rows}
use Rattle.ristulva_c.proofs.RouteRows.{update_count}
use Rattle.ristulva_c.proofs.route_rows.count_routes.Goals as goal

pub overflow_add-result : goal.overflow_add-result
overflow_add-result c =
    let row = withdrawn_row 0 0 no_prefix in
    omega (arith, c.requires row row, update_count row row (update_value c.args.update.now), c.left.ensures ∙ ap length c.withdrawn.ensures, c.count_unreached.ensures row ∙ ap (λ u. length (unreached_rows row u)) c.unreach.ensures)

pub overflow_add-result-2 : goal.overflow_add-result-2
overflow_add-result-2 c =
    let row = withdrawn_row 0 0 no_prefix in
    omega (
      arith,
      c.requires row row,
      update_count row row (update_value c.args.update.now),
      c.left.ensures ∙ ap length c.withdrawn.ensures,
      c.count_unreached.ensures row ∙ ap (λ u. length (unreached_rows row u)) c.unreach.ensures,
      c.count_reached.ensures row ∙ ap (λ r. length (reached_rows row r)) c.reach.ensures,
    )

pub overflow_add-result-3 : goal.overflow_add-result-3
overflow_add-result-3 c =
    let row = withdrawn_row 0 0 no_prefix in
    omega (
      arith,
      c.requires row row,
      update_count row row (update_value c.args.update.now),
      c.left.ensures ∙ ap length c.withdrawn.ensures,
      c.count_unreached.ensures row ∙ ap (λ u. length (unreached_rows row u)) c.unreach.ensures,
      c.count_reached.ensures row ∙ ap (λ r. length (reached_rows row r)) c.reach.ensures,
      c.left-2.ensures ∙ ap length c.nlri.ensures,
    )
