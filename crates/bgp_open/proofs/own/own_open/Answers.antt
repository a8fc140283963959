use Rattle.std.proofs.Common.{◌≡◌, ◌∙◌, arith, rules}
use Rattle.bgp_open.specs.Prelude.{own_caps}
use Rattle.bgp_open.proofs.Owns.{own-read}
use Rattle.bgp_open.proofs.own.own_open.Goals as goal

pub returns : goal.returns
returns c =
    let caps : c.in_ok-caps.caps ≡ own_caps c.args.config.now =
    own-read c.args.config.now c.in_ok-caps.caps c.deref.result.now (omega arith) (c.deref.ensures.0 ∙ c.offered_row.ensures) (c.in_ok-caps.ensures ∙ c.of_row.ensures) in
    search rules
