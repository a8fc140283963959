use Rattle.std.proofs.Common.{◌-◌, ◌≤◌, drop, ap, ◌∙◌, arith}
use Rattle.bgp_guard.proofs.Ranges.{less_front}
use Rattle.bgp_guard_run.proofs.piece.Piece.take_off.Goals as goal

pub returns-then-n-self : goal.returns-then-n-self
returns-then-n-self c =
    let p = c.self.inside in
    let within : c.args.n ≤ p.end - p.start = omega (arith, c.if-n-self.true) in
    less_front c.args.n p.start p.end p.octets.items within ∙ ap (drop c.args.n) c.self.view_is
