use Rattle.ristulva_c.proofs.Below.{◌≡◌, leb, length, Some, sym, ap, ◌∙◌, arith, le-leb, option_map, rebuilt, joined_value, update_value, PathInfo, outcome_value, OutcomeView}
use Rattle.ristulva_c.specs.Prelude.{path_rows, number_rows, attrs_in}
use Rattle.ristulva_c.proofs.FewNumbers.{few_in, few_numbers}
use Rattle.ristulva_c.proofs.NumberRows.{rows_count}
use Rattle.ristulva_c.proofs.number_rows.PathNumbersBatch.fit.Goals as goal

pub returns-then-body-room-clause-fit : goal.returns-then-body-room-clause-fit
returns-then-body-room-clause-fit c at =
    let o = outcome_value c.args.outcome.now in
    sym (le-leb (length (number_rows at (attrs_in o))) c.args.room (omega (arith, few_numbers c.args.body.now o c.are_octets.ensures c.requires at, c.if-body-room.true)))

pub returns-then-body-room-clause-few : goal.returns-then-body-room-clause-few
returns-then-body-room-clause-few c at = omega (arith, few_numbers c.args.body.now (outcome_value c.args.outcome.now) c.are_octets.ensures c.requires at, c.requires.short)

pub count_path-requires : goal.count_path-requires
count_path-requires c =
    let a = (update_value c.in-Update.update.now).attrs in
    let kept : attrs_in (outcome_value c.args.outcome.now) ≡ Some a = ap (λ (v : OutcomeView). attrs_in (outcome_value v)) c.in-Update.is in
    let path : (rebuilt a).path ≡ Some (joined_value c.in-Some.path) = sym (ap (λ (i : PathInfo). i.path) c.path_info.ensures) ∙ ap (option_map joined_value) c.in-Some.is in
    omega (arith, (few_in c.args.body.now (outcome_value c.args.outcome.now) c.are_octets.ensures c.requires a kept).path (joined_value c.in-Some.path) path, c.requires.short)

pub returns-in-Some-clause-fit : goal.returns-in-Some-clause-fit
returns-in-Some-clause-fit c at =
    let a = (update_value c.in-Update.update.now).attrs in
    let kept : attrs_in (outcome_value c.args.outcome.now) ≡ Some a = ap (λ (v : OutcomeView). attrs_in (outcome_value v)) c.in-Update.is in
    let path : (rebuilt a).path ≡ Some (joined_value c.in-Some.path) = sym (ap (λ (i : PathInfo). i.path) c.path_info.ensures) ∙ ap (option_map joined_value) c.in-Some.is in
    let counted : c.count_path.result ≡ length (number_rows at (attrs_in (outcome_value c.args.outcome.now))) =
    c.count_path.ensures ∙ sym (ap (λ x. length (number_rows at x)) kept ∙ ap (λ p. length (path_rows at p)) path ∙ rows_count at 0 (joined_value c.in-Some.path).segments) in
    ap (λ n. leb n c.args.room) counted

pub returns-in-Some-clause-few : goal.returns-in-Some-clause-few
returns-in-Some-clause-few c at = omega (arith, few_numbers c.args.body.now (outcome_value c.args.outcome.now) c.are_octets.ensures c.requires at, c.requires.short)
