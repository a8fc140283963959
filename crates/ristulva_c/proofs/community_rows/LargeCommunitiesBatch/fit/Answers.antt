use Rattle.ristulva_c.proofs.Below.{◌≡◌, length, Some, sym, ap, ◌∙◌, arith, le-leb, length-map, option_map, large_value, update_value, Attrs, outcome_value, OutcomeView}
use Rattle.ristulva_c.specs.Prelude.{large_row, large_rows, attrs_in}
use Rattle.ristulva_c.proofs.FewNumbers.{few_in, few_large}
use Rattle.ristulva_c.proofs.community_rows.LargeCommunitiesBatch.fit.Goals as goal

pub returns-then-body-room-clause-fit : goal.returns-then-body-room-clause-fit
returns-then-body-room-clause-fit c at =
    let o = outcome_value c.args.outcome.now in
    sym (le-leb (length (large_rows at (attrs_in o))) c.args.room (omega (arith, few_large c.args.body.now o c.are_octets.ensures c.requires at, c.if-body-room.true)))

pub returns-then-body-room-clause-few : goal.returns-then-body-room-clause-few
returns-then-body-room-clause-few c at = omega (arith, few_large c.args.body.now (outcome_value c.args.outcome.now) c.are_octets.ensures c.requires at, c.requires.short)

pub count_rows-requires : goal.count_rows-requires
count_rows-requires c =
    let a = (update_value c.in-Update.update.now).attrs in
    let kept : attrs_in (outcome_value c.args.outcome.now) ≡ Some a = ap (λ (v : OutcomeView). attrs_in (outcome_value v)) c.in-Update.is in
    let has : a.large ≡ Some (large_value c.in-Some.communities) = sym (ap (λ (x : Attrs). x.large) c.kept.ensures.known) ∙ sym c.large.ensures ∙ ap (option_map large_value) c.in-Some.is in
    omega (arith, length-map (large_value c.in-Some.communities).values (large_row 0), (few_in c.args.body.now (outcome_value c.args.outcome.now) c.are_octets.ensures c.requires a kept).large (large_value c.in-Some.communities) has, c.requires.short)

pub returns-in-Some-clause-few : goal.returns-in-Some-clause-few
returns-in-Some-clause-few c at = omega (arith, few_large c.args.body.now (outcome_value c.args.outcome.now) c.are_octets.ensures c.requires at, c.requires.short)
