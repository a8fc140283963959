use Rattle.bgp_engine.proofs.Prelude.{◌+◌, ◌*◌, ◌≤◌, ℕ, List, take, sym, subst, inl, inr, ◌-◌, ◌∙◌, arith, err_from_is_err_and, Appends, Appends-nil}
use Rattle.bgp_engine.proofs.Prelude.{length-take, FailsWithin}
use Rattle.bgp_engine.proofs.HexReads.{some_waits, none_waits}
use Rattle.bgp_engine.proofs.Reading.{Reading, Reading-none, Reading-block, Reached-none, Reached-block, Reached-bad, Reached-over, fails_read, fails_bad, fails_put, fails_block, finished, bad_digit, bad_block, none_bad, read_nothing, read_failed}
use Rattle.bgp_engine.proofs.running.run.Goals as goal

pub reading-init : goal.reading-init
reading-init g c =
    let e = g.E.Engine in
    record {
      reading = Reading-none (e.going (e.state c.args.engine.now)) c.new-reader.result c.requires.going c.requires.rests c.new-reader.ensures.pending c.new-reader.ensures.seen;
      told = c.requires.told;
      ready = c.requires.ready;
      room = omega (arith, c.requires.room);
    }

pub returns-in-Err : goal.returns-in-Err
returns-in-Err g c =
    let rem = g.R.Read.remaining in
    let at = c.reading in
    let s = at.invariant.reading in
    let r1 = rem c.read.new.self in
    let reached = Reached-none s r1 (g.E.Engine.told at.engine) at.invariant.told (read_failed (rem c.args.input.now) (rem at.input) r1 s.text c.in-Err.ensures.bytes s.read) in
    fails_read (g.W.Write.contents at.output) reached s.rests.report s.rests.reported

pub returns : goal.returns
returns g c =
    let at = c.reading in
    let s = at.invariant.reading in
    let reached = Reached-none s (g.R.Read.remaining at.input) (g.E.Engine.told at.engine) at.invariant.told s.read in
    fails_read (g.W.Write.contents at.output) reached s.rests.report s.rests.reported

pub returns-in-Some : goal.returns-in-Some
returns-in-Some g c =
    let rem = g.R.Read.remaining in
    let at = c.reading in
    let w = g.W.Write.contents at.output in
    let told = g.E.Engine.told at.engine in
    let s = at.invariant.reading in
    let r1 = rem c.read.new.self in
    let read = read_nothing (rem c.args.input.now) (rem at.input) r1 c.in-Ok.count c.read.new.buf s.text c.if-count-eq0.true c.in-Ok.ensures.bytes.0 s.read in
    let digit = some_waits at.reader.pending (at.reader.seen - 1) c.in-Some.place (sym c.waiting_digit.ensures ∙ c.in-Some.is) in
    fails_bad w (Reached-none s r1 told at.invariant.told read) c.in-Some.place s.rests.report s.rests.reported s.rests.none (subst (Appends w w) (sym at.invariant.told) (Appends-nil w))
    (bad_digit s r1 told at.invariant.told read c.in-Some.place digit.0 s.rests.report.end_of s.rests.waiting (c.in-Ok.ensures.bytes.1 c.if-count-eq0.true (omega arith)) digit.1
    (at.reader.is_digit digit.0 digit.1) digit.2)

pub returns-then-count-eq0 : goal.returns-then-count-eq0
returns-then-count-eq0 g c =
    let rem = g.R.Read.remaining in
    let at = c.reading in
    let told = g.E.Engine.told at.engine in
    let s = at.invariant.reading in
    let r1 = rem c.read.new.self in
    let read = read_nothing (rem c.args.input.now) (rem at.input) r1 c.in-Ok.count c.read.new.buf s.text c.if-count-eq0.true c.in-Ok.ensures.bytes.0 s.read in
    let none = none_waits at.reader.pending (at.reader.seen - 1) (λ n is. c.in_default.not-Some n (c.waiting_digit.ensures ∙ is)) in
    finished (g.W.Write.contents c.finish.new.output) (Reached-none s r1 told at.invariant.told read) c.finish.result
    (λ q _. inr (c.in-Ok.ensures.bytes.1 c.if-count-eq0.true (omega arith), none_bad s r1 told at.invariant.told read none)) c.finish.ensures

pub returns-in_err-take_block : goal.returns-in_err-take_block
returns-in_err-take_block g c =
    let at = c.reading in
    let p = err_from_is_err_and c.from_residual.result c.from_residual.ensures.1 in
    rw (p.1, p.2)
    (fails_block at.invariant.reading (g.R.Read.remaining c.read.new.self) (take c.in-Ok.count c.read.new.buf) c.take_block.ensures.octets c.in-Ok.ensures.bytes.0 c.in_err-take_block.ensures.memory)

pub returns-in-Over : goal.returns-in-Over
returns-in-Over g c =
    let at = c.reading in
    let s = at.invariant.reading in
    let block = take c.in-Ok.count c.read.new.buf in
    let m = rw c.in-Over.is at c.in_ok-take_block.ensures.meets in
    let reached = Reached-over s (g.R.Read.remaining c.read.new.self) block c.take_block.ensures.octets c.in-Ok.ensures.bytes.0 at.invariant.told m in
    finished (g.W.Write.contents c.finish-in-Over.new.output) reached c.finish-in-Over.result (λ q k. inl (m.takes.stands.over q k)) c.finish-in-Over.ensures

pub returns-in_err-put-in-Bad : goal.returns-in_err-put-in-Bad
returns-in_err-put-in-Bad g c =
    let at = c.reading in
    let s = at.invariant.reading in
    let w = g.W.Write.contents at.output in
    let w1 = g.W.Write.contents c.put.new.output in
    let block = take c.in-Ok.count c.read.new.buf in
    let m = rw c.in-Bad.is at c.in_ok-take_block.ensures.meets in
    let p = err_from_is_err_and c.from_residual-in_err-put-in-Bad.result c.from_residual-in_err-put-in-Bad.ensures.1 in
    let rests = m.takes.stands.1 in
    let reached = Reached-bad s (g.R.Read.remaining c.read.new.self) block c.take_block.ensures.octets c.in-Ok.ensures.bytes.0 at.invariant.told c.in-Bad.place m in
    rw (p.1, p.2)
    (fails_put w1 reached rests.report _ rests.reported
    (subst (λ (x : List ℕ). FailsWithin w w1 x c.in_err-put-in-Bad.field-0.0) c.told.ensures c.in_err-put-in-Bad.ensures.err))

pub returns-in-Bad : goal.returns-in-Bad
returns-in-Bad g c =
    let at = c.reading in
    let s = at.invariant.reading in
    let r1 = g.R.Read.remaining c.read.new.self in
    let w = g.W.Write.contents at.output in
    let w1 = g.W.Write.contents c.put.new.output in
    let block = take c.in-Ok.count c.read.new.buf in
    let more = c.in-Ok.ensures.bytes.0 in
    let m = rw c.in-Bad.is at c.in_ok-take_block.ensures.meets in
    let rests = m.takes.stands.1 in
    fails_bad w1 (Reached-bad s r1 block c.take_block.ensures.octets more at.invariant.told c.in-Bad.place m) c.in-Bad.place rests.report rests.reported rests.none
    (subst (Appends w w1) c.told.ensures c.in_ok-put-in-Bad.ensures.ok)
    (bad_block s r1 block c.take_block.ensures.octets more at.invariant.told c.in-Bad.place rests.report.end_of rests.waiting m)

pub returns-in_err-put : goal.returns-in_err-put
returns-in_err-put g c =
    let at = c.reading in
    let s = at.invariant.reading in
    let w = g.W.Write.contents at.output in
    let w1 = g.W.Write.contents c.put-in-reading.new.output in
    let block = take c.in-Ok.count c.read.new.buf in
    let m = rw c.in-Block.is at c.in_ok-take_block.ensures.meets in
    let p = err_from_is_err_and c.from_residual-in_err-put.result c.from_residual-in_err-put.ensures.1 in
    let rests = m.takes.stands.1 in
    let reached = Reached-block s (g.R.Read.remaining c.read.new.self) block c.take_block.ensures.octets c.in-Ok.ensures.bytes.0 at.invariant.told m in
    rw (p.1, p.2)
    (fails_put w1 reached rests.report _ rests.reported
    (subst (λ (x : List ℕ). FailsWithin w w1 x c.in_err-put.field-0.0) c.told-in-reading.ensures c.in_err-put.ensures.err))

pub reading-preserved : goal.reading-preserved
reading-preserved g c =
    let e = g.E.Engine in
    let at = c.reading in
    let s = at.invariant.reading in
    let r1 = g.R.Read.remaining c.read.new.self in
    let w = g.W.Write.contents at.output in
    let after = g.W.Write.contents c.put-in-reading.new.output in
    let block = take c.in-Ok.count c.read.new.buf in
    let m = rw c.in-Block.is at c.in_ok-take_block.ensures.meets in
    let next = Reading-block s r1 block c.take_block.ensures.octets c.in-Ok.ensures.bytes.0 at.invariant.told after (omega (arith, length-take c.in-Ok.count c.read.new.buf)) m (subst (Appends w after) c.told-in-reading.ensures c.in_ok-put.ensures.ok) in
    let same = sym c.clear.ensures.state in
    record {
      reading = subst (λ (x : e.State). Reading (e.reports (e.state c.args.engine.now)) c.args.hex (g.R.Read.remaining c.args.input.now) (g.W.Write.contents c.args.output.now) (e.reports x) (e.going x) r1 after c.take_block.new.reader (at._turn + 1)) same next;
      told = c.clear.ensures.told;
      ready = subst e.ready same c.in_ok-take_block.ensures.ready;
      room = subst (λ (x : e.State). 1125899906842624 ≤ e.room x + 4096 * (at._turn + 1)) same (omega (arith, at.invariant.room, c.in_ok-take_block.ensures.room));
    }
