use Rattle.bgp_wire.proofs.Std.{◌*◌, ◌≤◌, length, ap, arith}
use Rattle.std.proofs.lemmas.List.{length-take}
use Rattle.bgp_attr.proofs.NumberCounts.{fits, first_numbers}
use Rattle.bgp_attr.proofs.numbers.AsNumberIter.first.Goals as goal

pub overflow_mul-end : goal.overflow_mul-end
overflow_mul-end c =
    let it = c.args.self in
    let within : c.args.count * c.number_width.result ≤ length it.rest.now = rw c.number_width.ensures (fits it.wide c.args.count it.rest.now (omega (arith, c.left.ensures))) in
    omega (arith, within)

pub slice_bounds-result-end : goal.slice_bounds-result-end
slice_bounds-result-end c =
    let it = c.args.self in
    let within : c.args.count * c.number_width.result ≤ length it.rest.now = rw c.number_width.ensures (fits it.wide c.args.count it.rest.now (omega (arith, c.left.ensures))) in
    omega (arith, within, length-take (c.args.count * c.number_width.result) it.rest.now)

pub returns : goal.returns
returns c =
    let it = c.args.self in
    let within : c.args.count * c.number_width.result ≤ length it.rest.now = rw c.number_width.ensures (fits it.wide c.args.count it.rest.now (omega (arith, c.left.ensures))) in
    first_numbers it.wide c.args.count (c.args.count * c.number_width.result) it.rest.now (ap (λ w. c.args.count * w) c.number_width.ensures) within
