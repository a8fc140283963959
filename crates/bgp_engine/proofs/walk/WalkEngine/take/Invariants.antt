use Rattle.bgp_engine.proofs.Prelude.{◌≡◌, ◌+◌, ◌≤◌, ◌^◌, None, length, Moves, walk_of}
use Rattle.bgp_engine.proofs.walk.WalkEngine.take.Given as goal

abbrev pub invariant-stream : goal.invariant-stream
invariant-stream g l =
    let rules = g.P.Page.rules in
    let told = g.P.Page.told in
    let old = l.fn.self in
    let now = l.self in
    record {
      moves : Moves (walk_of rules old) (walk_of rules now) (told old.page) (told now.page) l.fn.octets l.rest;
      fits : now.ended ≡ None → now.place + length now.framer.octets + length l.rest ≤ 2 ^ 60;
    }

abbrev pub decreases-stream : goal.decreases-stream
decreases-stream g l = length l.rest
