use Rattle.bgp_wire.proofs.Std.{List, ℕ, ap, sym, ◌∙◌}
use Rattle.bgp_attr.specs.Prelude.{tlv_at, tlv_value}
use Rattle.bgp_paths.proofs.Lengths.{whole_within}
use Rattle.bgp_paths.proofs.places.first_of_type.Goals as goal

pub returns-then-tlv-kind-clause-within : goal.returns-then-tlv-kind-clause-within
returns-then-tlv-kind-clause-within c =
    whole_within c.args.field.now c.in-Some.tlv.at (tlv_value c.in-Some.tlv) (ap (λ (b : List ℕ). tlv_at b c.in-Some.tlv.at) (sym c.field.invariant.field) ∙ c.in-Some.ensures.steps.2.1)
