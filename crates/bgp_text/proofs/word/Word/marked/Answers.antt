use Rattle.bgp_text.proofs.Prelude.{drop, arith}
use Rattle.bgp_text.proofs.Words.{marked_ascii}
use Rattle.bgp_text.proofs.word.Word.marked.Goals as goal

pub invariant_of-self : goal.invariant_of-self
invariant_of-self g c =
    let w = c.self.inside in
    let done = c.write_marked-self-inside in (
      omega (arith, done.ensures.start, c.self.invariant.0),
      marked_ascii c.args.mark c.wide.result (drop w.at w.octets) (drop done.result done.new.octets) c.requires.ascii c.wide.type_inv c.self.invariant.1 done.ensures.written,
    )
