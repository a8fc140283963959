use Rattle.bgp_engine.proofs.Prelude.{subst, sym, ◌∙◌, IsLengthIn, length-IsFrame}
use Rattle.bgp_frame.specs.Prelude.{wide_types}
use Rattle.bgp_engine.proofs.Walks.{judges_fault, judges_message}
use Rattle.bgp_engine.proofs.Wides.{wide_fault}
use Rattle.bgp_engine.proofs.walk.Walk.judge.Goals as goal

pub put_message-requires-clause-allowed : goal.put_message-requires-clause-allowed
put_message-requires-clause-allowed g c =
    let ty = wide_types c.args.self.now.framer.grammar in
    let f = c.in-Frame.ensures.1.0 in
    rw (sym c.requires.counting.typed.same) (subst (IsLengthIn ty c.in-Frame.frame.kind) (length-IsFrame ty c.requires.counting.typed.are _ _ f) f.allowed)

pub put_message-requires-clause-size : goal.put_message-requires-clause-size
put_message-requires-clause-size g c =
    let shows = c.in-Frame.ensures.1 in
    shows.1 ∙ length-IsFrame (wide_types c.args.self.now.framer.grammar) c.requires.counting.typed.are _ _ shows.0

pub returns-in_ok-class-in-Frame : goal.returns-in_ok-class-in-Frame
returns-in_ok-class-in-Frame g c =
    rw (c.clear.ensures, c.count.ensures, c.put_message.ensures.rules)
    (judges_message _ _ _ _ _ c.requires.counting.typed c.requires.unended c.in-Frame.ensures.0 _ _ _ c.in-Frame.ensures.1.0 c.in-Frame.ensures.1.1 c.in_ok-class-in-Frame.ensures.writes)

pub returns-in_ok-fault-in-Fault : goal.returns-in_ok-fault-in-Fault
returns-in_ok-fault-in-Fault g c =
    rw (c.clear-in-Fault.ensures, c.count_fault.ensures, c.fault.ensures.rules)
    (judges_fault _ _ _ _ _ c.requires.counting.typed c.requires.unended c.in-Fault.ensures.0 _ c.in-Fault.ensures.1 (wide_fault _ _ _ _ _ _ _ (rw c.pulled-header.ensures at c.in_ok-fault-in-Fault.ensures.writes)))
