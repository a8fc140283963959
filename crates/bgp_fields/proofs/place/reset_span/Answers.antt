use Rattle.bgp_fields.proofs.Prelude.{ap, ◌∙◌, message_in, reset_place}
use Rattle.bgp_frame.specs.Frame as frame
use Rattle.bgp_fields.proofs.Fronts.{no-wait, no-wait-header, no-fault, no-fault-front, one-message}
use Rattle.bgp_fields.proofs.place.reset_span.Goals as goal

pub returns-in-More-clause-message : goal.returns-in-More-clause-message
returns-in-More-clause-message c = λ m is. absurd (no-wait m c.args.octets.now is c.in-More.ensures)

pub returns-in-More-clause-header : goal.returns-in-More-clause-header
returns-in-More-clause-header c = λ f long is. absurd (no-wait-header c.args.octets.now f long is c.in-More.ensures)

pub returns-in-Fault-clause-message : goal.returns-in-Fault-clause-message
returns-in-Fault-clause-message c = λ m is. absurd (no-fault m c.args.octets.now c.in-Fault.fault is c.in-Fault.ensures.1)

pub returns-in-Frame-clause-message : goal.returns-in-Frame-clause-message
returns-in-Frame-clause-message c =
    let f = c.in-Frame.frame in
    λ m is. c.message_span.ensures
    ∙ ap (λ (x : frame.Message). reset_place c.args.ctx.now x) (one-message c.args.octets.now f.len (message_in f) c.in-Frame.ensures.1 m is)

pub returns-in-Frame-clause-header : goal.returns-in-Frame-clause-header
returns-in-Frame-clause-header c =
    let f = c.in-Frame.frame in
    λ fault long is. absurd (no-fault-front c.args.octets.now f.len (message_in f) c.in-Frame.ensures.1 fault is)
