use Rattle.std.proofs.Common.{◌≡◌, Some, None, sym, subst, ◌∙◌}
use Rattle.bgp_attr.specs.Prelude.{tlv_value, TlvValue}
use Rattle.bgp_wire.specs.Prelude.{also, has_octet}
use Rattle.bgp_update.specs.Prelude.{judged_behind}
use Rattle.bgp_update.specs.Summary.{Adds}
use Rattle.bgp_update.proofs.summary.Summary.add_other_at.Goals as goal

same : (s t : TlvValue) → Some s ≡ Some t → s ≡ t
same s t e = cc

nothing : (t : TlvValue) → None ≡ Some t → ⊥
nothing t e = absurd cc

pub returns-in-Some-clause-adds : goal.returns-in-Some-clause-adds
returns-in-Some-clause-adds c t there =
    let old = c.args.self.now in
    let seen = has_octet c.args.seen.now in
    let new = c.add_other.new in
    subst (λ (s : TlvValue). Adds old (judged_behind old.kept.ctx old.kept.has_nlri seen s) new.self × (has_octet new.seen ≡ also s.kind seen))
    (same (tlv_value c.in-Some.tlv) t (c.in-Some.ensures ∙ there)) (c.add_other.ensures.adds, c.add_other.ensures.seen)

pub returns-in_default-clause-adds : goal.returns-in_default-clause-adds
returns-in_default-clause-adds c t there = absurd (nothing t (c.in_default.ensures ∙ there))

pub add_other-requires : goal.add_other-requires
add_other-requires c = let it = c.requires.other (tlv_value c.in-Some.tlv) (sym c.in-Some.ensures) in record { other = it.0; short = it.1 }
