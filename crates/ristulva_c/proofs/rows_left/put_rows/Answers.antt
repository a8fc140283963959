use Rattle.std.proofs.Common.{arith, ap, length}
use Rattle.ristulva_c.proofs.Rows.{place_left, writes_none, writes_more, all_written}
use Rattle.ristulva_c.proofs.rows_left.put_rows.Goals as goal

pub rows-init : goal.rows-init
rows-init g c = writes_none (g.R.Rows.left c.args.rows) c.args.from c.args.list.now

pub rows-preserved : goal.rows-preserved
rows-preserved g c =
    writes_more (g.R.Rows.left c.args.rows) (g.R.Rows.left c.rows.left) (g.R.Rows.left c.next_row.new.self) c.args.from c.rows.to c.args.list.now c.rows.list c.in-Some.row
    c.rows.invariant c.in-Some.ensures (omega (arith, c.requires, c.rows.auto.list))

pub returns : goal.returns
returns g c =
    let done = all_written (g.R.Rows.left c.args.rows) (g.R.Rows.left c.rows.left) c.args.from c.rows.to c.args.list.now c.rows.list c.rows.invariant c.in_default.ensures in
    record { adds = done.0; to = done.1 }

pub bounds-list-to : goal.bounds-list-to
bounds-list-to g c =
    place_left (g.R.Rows.left c.args.rows) (g.R.Rows.left c.rows.left) (g.R.Rows.left c.next_row.new.self) c.args.from c.rows.to c.args.list.now c.rows.list c.in-Some.row
    c.rows.invariant c.in-Some.ensures (omega (arith, c.requires, c.rows.auto.list))

pub rows-smaller : goal.rows-smaller
rows-smaller g c = omega (arith, ap length c.in-Some.ensures)
