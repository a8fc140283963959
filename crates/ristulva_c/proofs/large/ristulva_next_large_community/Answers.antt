use Rattle.ristulva_c.proofs.LargePlaces.{row_behind, large_behind}
use Rattle.ristulva_c.proofs.large.ristulva_next_large_community.Goals as goal

pub first_new_triple-requires : goal.first_new_triple-requires
first_new_triple-requires c = row_behind c.args.octets.now c.args.cursor.now c.in-Some.value.now c.in-Some.ensures.1 c.in-Some.ensures.0

pub returns-clause-ok : goal.returns-clause-ok
returns-clause-ok c ok =
    large_behind c.args.octets.now c.args.cursor.now c.in-Some.value.now c.in-Some.ensures.1 c.in-Some.ensures.0 c.in-Some-first_new_triple.found.0 c.in-Some-first_new_triple.found.1
    c.in-Some-first_new_triple.ensures
