use Rattle.bgp_text.proofs.Prelude.{drop, arith}
use Rattle.bgp_text.proofs.Words.{number_ascii}
use Rattle.bgp_text.proofs.word.Word.number.Goals as goal

pub invariant_of-self : goal.invariant_of-self
invariant_of-self g c =
    let w = c.self.inside in
    let done = c.write_digits-self-inside in (
      omega (arith, done.ensures.start, c.self.invariant.0),
      number_ascii c.wide.result (drop w.at w.octets) (drop done.result done.new.octets) c.wide.type_inv c.self.invariant.1 done.ensures.written,
    )
