use Rattle.bgp_engine.specs.Check.{Checked}
use Rattle.bgp_engine.specs.Prelude.{CheckedUnder, io}
use Rattle.bgp.proofs.Flags.{in_terms}
use Rattle.bgp.proofs.cli.check_flagged.Goals as goal

pub returns : goal.returns
returns g c =
    in_terms Checked CheckedUnder c.args.flags.now c.are_plain.result c.are_plain.ensures c.if-are_plain.false _ c.terms_of-terms.ensures c.args.hex
    (io g.R.Read.remaining c.args.input.now c.check_under.new.input g.W.Write.contents c.args.output.now c.check_under.new.output) c.check_under.result c.check_under.ensures
