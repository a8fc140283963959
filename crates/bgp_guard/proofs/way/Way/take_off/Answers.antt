use Rattle.bgp_guard.proofs.Prelude.{◌≡◌, ◌-◌, ◌≤◌, length, drop, ap, ◌∙◌, arith, slice_range, length-take}
use Rattle.bgp_guard.proofs.Ranges.{less_front}
use Rattle.bgp_guard.proofs.way.Way.take_off.Goals as goal

pub returns-then-n-len : goal.returns-then-n-len
returns-then-n-len c =
    let w = c.self.inside in
    let same : length (slice_range w.octets.items w.start w.end) ≡ length c.args.self.now = ap length c.self.view_is in
    let within : c.args.n ≤ w.end - w.start = omega (arith, c.if-n-len.true, c.len.ensures.value, same, length-take (w.end - w.start) (drop w.start w.octets.items)) in
    less_front c.args.n w.start w.end w.octets.items within ∙ ap (drop c.args.n) c.self.view_is
