use Rattle.bgp_wire.proofs.Std.{ap, sym, ◌∙◌, rules}
use Rattle.std.proofs.lemmas.Bool.{eqb-true}
use Rattle.std.specs.Int.Bits.{bit_and}
use Rattle.bgp_prefix.proofs.WrittenFronts.{clear_front}
use Rattle.bgp_prefix.proofs.rewriting.is_clear.Goals as goal

pub returns-in-Some : goal.returns-in-Some
returns-in-Some c same =
    let f = c.args.front in
    let last = c.in-Some.last.now in
    clear_front f.len f.read.now c.in-Some.whole.now last c.requires c.in-Some.ensures.cases.0 (search rules)
    (ap (λ m. bit_and last m) (sym c.mask.ensures) ∙ eqb-true (bit_and last c.mask.result) last same)
