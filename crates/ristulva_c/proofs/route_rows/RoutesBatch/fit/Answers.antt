use Rattle.ristulva_c.proofs.Below.{length, sym, arith, le-leb, parts_of}
use Rattle.ristulva_c.specs.Prelude.{rows_seen}
use Rattle.ristulva_c.proofs.RouteRows.{gives_rows, few_rows, few_update}
use Rattle.ristulva_c.proofs.route_rows.RoutesBatch.fit.Goals as goal

pub returns-then-body-room-clause-fit : goal.returns-then-body-room-clause-fit
returns-then-body-room-clause-fit c at =
    let parts = parts_of c.args.body.now in
    sym (le-leb (length (rows_seen at parts c.args.outcome.now)) c.args.room (omega (arith, few_rows c.args.body.now at parts c.args.outcome.now c.are_octets.ensures c.requires, c.if-body-room.true)))

pub returns-then-body-room-clause-given : goal.returns-then-body-room-clause-given
returns-then-body-room-clause-given c at = gives_rows at (parts_of c.args.body.now) c.args.outcome.now

pub returns-then-body-room-clause-few : goal.returns-then-body-room-clause-few
returns-then-body-room-clause-few c at = omega (arith, few_rows c.args.body.now at (parts_of c.args.body.now) c.args.outcome.now c.are_octets.ensures c.requires, c.requires.short)

pub count_routes-requires : goal.count_routes-requires
count_routes-requires c = few_update c.args.body.now c.args.outcome.now c.in-Update.update c.are_octets.ensures c.requires c.in-Update.is

pub returns-in-Update-clause-given : goal.returns-in-Update-clause-given
returns-in-Update-clause-given c at = gives_rows at (parts_of c.args.body.now) c.args.outcome.now

pub returns-in-Update-clause-few : goal.returns-in-Update-clause-few
returns-in-Update-clause-few c at = omega (arith, few_rows c.args.body.now at (parts_of c.args.body.now) c.args.outcome.now c.are_octets.ensures c.requires, c.requires.short)
