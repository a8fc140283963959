use Rattle.ristulva_c.proofs.Below.{◌≡◌, Some, sym, ap, ◌∙◌, arith, option_map, rebuilt, joined_value, update_value, PathInfo, outcome_value, OutcomeView}
use Rattle.ristulva_c.specs.Prelude.{attrs_in}
use Rattle.ristulva_c.proofs.FewNumbers.{few_in}
use Rattle.ristulva_c.proofs.number_rows.PathNumbersBatch.put.Goals as goal

pub put_path-requires-clause-few : goal.put_path-requires-clause-few
put_path-requires-clause-few c =
    let a = (update_value c.in-Update.update.now).attrs in
    let kept : attrs_in (outcome_value c.args.outcome.now) ≡ Some a = ap (λ (v : OutcomeView). attrs_in (outcome_value v)) c.in-Update.is in
    let path : (rebuilt a).path ≡ Some (joined_value c.in-Some.path) = sym (ap (λ (i : PathInfo). i.path) c.path_info.ensures) ∙ ap (option_map joined_value) c.in-Some.is in
    omega (arith, (few_in c.args.body.now (outcome_value c.args.outcome.now) c.are_octets.ensures c.requires.viewed a kept).path (joined_value c.in-Some.path) path, c.requires.viewed.short)
