use Rattle.bgp_wire.proofs.Std.{ap, length, ◌∙◌, arith}
use Rattle.std.proofs.lemmas.List.{length-take}
use Rattle.bgp_prefix.proofs.BitLemmas.{address_of-chunk}
use Rattle.bgp_prefix.proofs.front.Front.address.Goals as goal

pub returns-in-Some-clause-value : goal.returns-in-Some-clause-value
returns-in-Some-clause-value g c =
    let f = c.args.self.now in
    let first = c.in-Some.ensures.cases in
    c.address.ensures.value
    ∙ address_of-chunk g.row.W f.len c.in-Some.field-0.now f.behind.now f.read.now (omega (arith, ap length first.same, length-take g.row.W f.behind.now, first.enough)) c.requires.allowed c.address.ensures.octets first.same c.requires.read
