use Rattle.std.proofs.Common.{ℕ, Bool, sym, ap, ap₂, ◌∙◌}
use Rattle.bgp_attr.specs.Prelude.{is_recognised, tlv_value}
use Rattle.bgp_wire.specs.Prelude.{has_octet}
use Rattle.bgp_update.specs.Prelude.{saw}
use Rattle.bgp_update.proofs.MarkTypes.{also_others, also_these, joined}
use Rattle.bgp_update.proofs.summary.Summary.add.Goals as goal

pub returns-then-is_recognised-clause-seen : goal.returns-then-is_recognised-clause-seen
returns-then-is_recognised-clause-seen c =
    let others = has_octet c.args.others.now in
    ap (λ (set : ℕ → Bool). joined is_recognised set others) c.repeat.ensures.seen
    ∙ also_these is_recognised (saw c.args.self.now.kept) others c.args.tlv.now.kind (sym c.is_recognised.ensures ∙ c.if-is_recognised.true)

pub returns-in-Some-clause-seen : goal.returns-in-Some-clause-seen
returns-in-Some-clause-seen c =
    let others = has_octet c.args.others.now in
    ap (λ (set : ℕ → Bool). joined is_recognised set others) c.add_first.ensures.seen
    ∙ also_these is_recognised (saw c.args.self.now.kept) others c.args.tlv.now.kind c.in-Some.ensures.0

pub returns-in-None-clause-seen : goal.returns-in-None-clause-seen
returns-in-None-clause-seen c =
    let more = c.add_other_at.ensures.adds (tlv_value c.args.tlv.now) c.requires.there in
    ap₂ (λ (these others : ℕ → Bool). joined is_recognised these others) c.add_other_at.ensures.same more.1
    ∙ also_others is_recognised (saw c.args.self.now.kept) (has_octet c.args.others.now) c.args.tlv.now.kind c.in-None.ensures
