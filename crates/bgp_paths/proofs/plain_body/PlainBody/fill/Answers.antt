use Rattle.bgp_wire.proofs.Std.{ap, ◌∙◌, arith, length, ◌≡◌}
use Rattle.bgp_paths.specs.Prelude.{plain_body, plain_of}
use Rattle.bgp_paths.proofs.Same.{body_shorter}
use Rattle.bgp_paths.proofs.plain_body.PlainBody.fill.Goals as goal

pub returns-in-Some-clause-shorter : goal.returns-in-Some-clause-shorter
returns-in-Some-clause-shorter c =
    let same : c.put_parts.new.self ≡ plain_body c.args.families c.args.body.now = c.put_parts.ensures ∙ ap (plain_of c.args.families c.args.body.now) c.in-Some.ensures.value in
    omega (arith, ap length same, body_shorter c.args.families c.args.body.now c.are_octets.ensures)
