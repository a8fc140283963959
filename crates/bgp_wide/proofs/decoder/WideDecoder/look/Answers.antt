use Rattle.bgp_wire.proofs.Std.{ap, ◌∙◌}
use Rattle.bgp_wide.specs.Decoder.{Going}
use Rattle.bgp_wide.specs.Prelude.{wide_value}
use Rattle.bgp_wide.proofs.Pulls.{fault, message, to_feed}
use Rattle.bgp_wide.proofs.decoder.WideDecoder.look.Goals as goal

pub returns-in-Feed : goal.returns-in-Feed
returns-in-Feed c =
    let inside = c.self.inside in
    to_feed c.args.self.now inside.terms inside.framer inside.stopped c.args.piece.now c.self.view_is c.self.invariant.0 c.if-self.false c.in-Feed.ensures

pub returns-in-Frame : goal.returns-in-Frame
returns-in-Frame c =
    let inside = c.self.inside in (
      message c.args.self.now inside.terms inside.framer inside.stopped c.args.piece.now c.self.view_is c.self.invariant.0 c.if-self.false
          c.in-Frame.taken c.in-Frame.frame (wide_value c.view_frame_in-view.result) c.in-Frame.ensures c.view_frame_in-view.ensures,
      (ap (λ (g : Going). g.from) c.new-next.ensures, ap (λ (g : Going). g.resets) c.new-next.ensures ∙ c.is_reset.ensures),
    )

pub returns-in-Fault : goal.returns-in-Fault
returns-in-Fault c =
    let inside = c.self.inside in (
      fault c.args.self.now inside.terms inside.framer inside.stopped c.args.piece.now c.self.view_is c.self.invariant.0 c.if-self.false
          c.in-Fault.taken c.in-Fault.fault c.in-Fault.ensures,
      (ap (λ (g : Going). g.from) c.new.ensures, ap (λ (g : Going). g.resets) c.new.ensures),
    )
