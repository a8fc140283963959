use Rattle.std.proofs.Common.{◌-◌, ◌+◌, refl}
use Rattle.bgp_update.proofs.Layouts.{both_set}
use Rattle.bgp_update.proofs.laying.set_lengths.Goals as goal

pub returns : goal.returns
returns g c =
    let p = c.args.places in
    λ withdrawn attributes nlri old laid.
    both_set withdrawn attributes nlri old c.args.start (p.attributes - (c.args.start + 2)) (p.nlri - (p.attributes + 2)) p (g.O.Output.written c.args.out.now) (g.O.Output.written c.set_length.new.out) (g.O.Output.written c.set_length-2.new.out) laid refl refl
    c.set_length.ensures c.set_length-2.ensures
