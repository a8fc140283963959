use Rattle.std.proofs.Common.{ℕ, take, subst}
use Rattle.bgp_frame.specs.Prelude.{Message, IsLength}
use Rattle.bgp_frame.proofs.FrameLemmas.{length-IsFrame}
use Rattle.bgp_loop.proofs.Wholes.{whole_frame, other_frame, whole_fault, other_fault}
use Rattle.bgp_loop.proofs.tracer.whole.Goals as goal
use Rattle.bgp_frame.specs.Kind.{plain}
use Rattle.bgp_frame.specs.steps.AreTypes.{plain-are}

pub returns-then-frame-octets : goal.returns-then-frame-octets
returns-then-frame-octets c =
    let m : Message = record { kind = c.in-Frame.frame.kind; body = c.in-Frame.frame.body.now } in
    let is = c.in-Frame.ensures.1 in (
      whole_frame m c.args.octets.now c.in-Frame.frame.len c.in-Frame.ensures.0 is c.if-frame-octets.true,
      c.if-frame-octets.true,
      subst (λ (n : ℕ). IsLength m.kind n) (length-IsFrame plain plain-are m (take c.in-Frame.frame.len c.args.octets.now) is) is.allowed,
    )

pub returns-else-frame-octets : goal.returns-else-frame-octets
returns-else-frame-octets c =
    let m : Message = record { kind = c.in-Frame.frame.kind; body = c.in-Frame.frame.body.now } in
    other_frame m c.args.octets.now c.in-Frame.frame.len c.in-Frame.ensures.0 c.in-Frame.ensures.1 c.if-frame-octets.false

pub returns-then-octets-eq19 : goal.returns-then-octets-eq19
returns-then-octets-eq19 c = whole_fault c.in-Fault.fault c.args.octets.now c.in-Fault.ensures.0 c.in-Fault.ensures.1 c.if-octets-eq19.true

pub returns-else-octets-eq19 : goal.returns-else-octets-eq19
returns-else-octets-eq19 c = other_fault c.in-Fault.fault c.args.octets.now c.in-Fault.ensures.0 c.in-Fault.ensures.1 c.if-octets-eq19.false
