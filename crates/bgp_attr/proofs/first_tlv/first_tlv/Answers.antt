use Rattle.std.proofs.Common.{sym, arith}
use Rattle.bgp_attr.proofs.TlvFronts.{none_below_three, three_cut, no_length, no_value, is_one_tlv, is_spelled, after_shorter}
use Rattle.bgp_attr.proofs.first_tlv.first_tlv.Goals as goal

pub returns-in_default-clause-found : goal.returns-in_default-clause-found
returns-in_default-clause-found c = sym (none_below_three c.args.octets.now c.in_default.len_below)

pub returns-in_default-length_behind-clause-found : goal.returns-in_default-length_behind-clause-found
returns-in_default-length_behind-clause-found c = sym (no_length c.args.octets.now _ _ _ (three_cut c.args.octets.now c.in-len3-up.len_at_least) c.in_default-length_behind.ensures)

pub returns-in_default-split_at_checked-clause-found : goal.returns-in_default-split_at_checked-clause-found
returns-in_default-split_at_checked-clause-found c = sym (no_value c.args.octets.now _ _ _ (three_cut c.args.octets.now c.in-len3-up.len_at_least) c.in-Some.len c.in-Some.rest.now c.in-Some.ensures c.in_default-split_at_checked.ensures.cases)

pub overflow_sub-octets : goal.overflow_sub-octets
overflow_sub-octets c = after_shorter c.args.octets.now _ _ _ (three_cut c.args.octets.now c.in-len3-up.len_at_least) c.in-Some.len c.in-Some.rest.now c.in-Some.ensures c.in-Some-split_at_checked.after.now c.in-Some-split_at_checked.ensures.cases.2

pub invariant_of-tlv : goal.invariant_of-tlv
invariant_of-tlv c = record { spelled = is_spelled c.args.octets.now _ _ _ (three_cut c.args.octets.now c.in-len3-up.len_at_least) c.in-Some.len c.in-Some.rest.now c.in-Some.ensures c.in-Some-split_at_checked.ensures.cases.0 c.in-Some-split_at_checked.value.now c.in-Some-split_at_checked.after.now c.split_at.result.0.now c.in-Some-split_at_checked.ensures.cases.1 c.in-Some-split_at_checked.ensures.cases.2 c.split_at.ensures.front (λ i. omega (arith, c.type_inv.octets i)) }

pub returns-clause-found : goal.returns-clause-found
returns-clause-found c = is_one_tlv c.args.octets.now _ _ _ (three_cut c.args.octets.now c.in-len3-up.len_at_least) c.in-Some.len c.in-Some.rest.now c.in-Some.ensures c.in-Some-split_at_checked.ensures.cases.0 c.in-Some-split_at_checked.value.now c.in-Some-split_at_checked.after.now c.split_at.result.0.now c.in-Some-split_at_checked.ensures.cases.1 c.in-Some-split_at_checked.ensures.cases.2 c.split_at.ensures.front
