use Rattle.bgp_clean.proofs.Prelude.{◌≡◌, ℕ, List, Option, sym, ap, subst, ◌∙◌, Attr, MpReach, MpUnreach, Attrs, present, slot}
use Rattle.bgp_attr.specs.Prelude.{attr_value}
use Rattle.bgp_clean.specs.steps.Parts.{part_value}
use Rattle.bgp_clean.proofs.PartSlots.{slot-hop, slot-reach, slot-unreach}
use Rattle.bgp_clean.proofs.part.PartViewHasAttributes.attribute.Goals as goal

pub returns-in-3 : goal.returns-in-3
returns-in-3 c =
    let a : Attrs = (part_value c.args.self.now).attrs in
    subst (λ (k : ℕ). present attr_value c.hop_attr.result ≡ slot a k) (sym c.in-3.is)
    (c.hop_attr.ensures ∙ ap (λ (h : Option (List ℕ)). present (λ (x : List ℕ). Attr.NextHop x) h) c.next_hop.ensures ∙ sym (slot-hop a))

pub returns-in-14 : goal.returns-in-14
returns-in-14 c =
    let a : Attrs = (part_value c.args.self.now).attrs in
    subst (λ (k : ℕ). present attr_value c.reach_attr.result ≡ slot a k) (sym c.in-14.is)
    (c.reach_attr.ensures ∙ ap (λ (r : Option MpReach). present (λ (x : MpReach). Attr.MpReach x) r) c.reach.ensures ∙ sym (slot-reach a))

pub returns-in-15 : goal.returns-in-15
returns-in-15 c =
    let a : Attrs = (part_value c.args.self.now).attrs in
    subst (λ (k : ℕ). present attr_value c.unreach_attr.result ≡ slot a k) (sym c.in-15.is)
    (c.unreach_attr.ensures ∙ ap (λ (r : Option MpUnreach). present (λ (x : MpUnreach). Attr.MpUnreach x) r) c.unreach.ensures ∙ sym (slot-unreach a))
