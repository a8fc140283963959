use Rattle.std.proofs.Common.{false}
use Rattle.bgp_engine.specs.Narrow.{Narrowed}
use Rattle.bgp_engine.specs.Prelude.{NarrowedUnder, io}
use Rattle.bgp.proofs.Flags.{in_terms}
use Rattle.bgp.proofs.cli.narrow_flagged.Goals as goal

pub returns : goal.returns
returns g c =
    in_terms Narrowed NarrowedUnder c.args.flags.now c.are_plain.result c.are_plain.ensures c.if-are_plain.false _ c.terms_of-terms.ensures false
    (io g.R.Read.remaining c.args.input.now c.narrow_under.new.input g.W.Write.contents c.args.output.now c.narrow_under.new.output) c.narrow_under.result c.narrow_under.ensures
