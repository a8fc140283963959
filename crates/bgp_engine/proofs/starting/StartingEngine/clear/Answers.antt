use Rattle.bgp_engine.proofs.Prelude.{option_map, Rules, starting, walking}
use Rattle.bgp_wire.proofs.Std.{ap₂}
use Rattle.bgp_frame.specs.Prelude.{wide_types}
use Rattle.bgp_engine.specs.First.{Starts}
use Rattle.bgp_engine.specs.Wide.{wide_rules}
use Rattle.bgp_engine.proofs.Startings.{starts_same}
use Rattle.bgp_engine.proofs.starting.StartingEngine.clear.Goals as goal

pub returns-clause-state : goal.returns-clause-state
returns-clause-state g c =
    let page = g.P.Page in
    let self = c.args.self.now in
    let w = self.walk in
    ap₂ (λ (s : Starts _ _) (r : Rules page.Outcome). starting s self.stage self.front (walking (wide_types w.framer.grammar) (wide_rules w.refreshes r) w.framer.octets w.place w.tally w.ended))
    (starts_same page.fits page.rules page.plan w.refreshes (option_map (λ t. t.now) self.theirs) c.clear.new.self w.page c.clear.ensures.rules c.clear.ensures.plan) c.clear.ensures.rules
