use Rattle.bgp_engine.proofs.Prelude.{ℕ, ◌++◌, List, option_map, subst, AreOctets, Stage, ReportedFrom, Answers, io, OfOctets, reports_in, starting}
use Rattle.bgp_engine.proofs.Prelude.{starts_of, walk_of}
use Rattle.bgp_engine.proofs.Reading.{answers_as}
use Rattle.bgp_engine.proofs.Startings.{extending, first_rests}
use Rattle.bgp_engine.proofs.starting.start_stream.Goals as goal

pub run-answer-requires-clause-rests : goal.run-answer-requires-clause-rests
run-answer-requires-clause-rests g c =
    let page = g.P.Page in
    let s = c.new-starting.result in
    let theirs = option_map (λ t. t.now) s.theirs in
    let from = starts_of page.fits page.rules page.plan s.walk.refreshes theirs s.walk.page in
    rw c.new-starting.ensures.stage
    (first_rests from (extending page.fits page.rules page.plan s.walk.page s.walk.refreshes theirs) s.front (walk_of page.rules s.walk) c.new-starting.ensures.first.waits)

pub returns : goal.returns
returns g c =
    let page = g.P.Page in
    let s = c.new-starting.result in
    let w = walk_of page.rules s.walk in
    let from = starts_of page.fits page.rules page.plan s.walk.refreshes (option_map (λ t. t.now) s.theirs) s.walk.page in
    let io = io g.R.Read.remaining c.args.input.now c.run-answer.new.input g.W.Write.contents c.args.output.now c.run-answer.new.output in
    let staged = subst (λ (x : Stage). Answers (OfOctets (reports_in (starting from x s.front w))) c.args.hex io c.run-answer.result) c.new-starting.ensures.stage c.run-answer.ensures in
    let held = subst (λ (x : List ℕ). Answers (OfOctets (λ later r. AreOctets later → ReportedFrom from (x ++ later) r)) c.args.hex io c.run-answer.result) c.new-starting.ensures.front staged in
    rw (c.new-starting.ensures.theirs, c.new-starting.ensures.page, c.new-starting.ensures.refreshes) at (answers_as _ (ReportedFrom from) c.args.hex io c.run-answer.result (λ s r q. q.1 q.0) held)
