use Rattle.bgp_engine.proofs.Prelude.{◌≡◌, ◌+◌, ◌*◌, ◌≤◌, ◌^◌, []}
use Rattle.bgp_engine.proofs.Reading.{Reading}
use Rattle.bgp_engine.proofs.running.run.Given as goal

abbrev pub invariant-reading : goal.invariant-reading
invariant-reading g l =
    let remaining = g.R.Read.remaining in
    let contents = g.W.Write.contents in
    let e = g.E.Engine in
    record {
      reading : Reading (e.reports (e.state l.fn.engine)) l.fn.hex (remaining l.fn.input) (contents l.fn.output) (e.reports (e.state l.engine)) (e.going (e.state l.engine)) (remaining l.input) (contents l.output) l.reader l._turn;
      told : e.told l.engine ≡ [];
      ready : e.ready (e.state l.engine);
      room : 2 ^ 50 ≤ e.room (e.state l.engine) + 4096 * l._turn;
    }
