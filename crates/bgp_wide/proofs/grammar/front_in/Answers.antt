use Rattle.bgp_wire.proofs.Std.{subst}
use Rattle.bgp_frame.specs.declared.grammar.WideGrammar.{WideGrammar}
use Rattle.bgp_frame.specs.Prelude.{ShowsFrontIn, wide_types}
use Rattle.bgp_wide.proofs.grammar.front_in.Goals as goal

pub returns : goal.returns
returns c = subst (λ (g : WideGrammar). ShowsFrontIn (wide_types g) c.args.piece.now c.front_of.result) c.grammar_of.ensures c.front_of.ensures
