use Rattle.std.proofs.Common.{false, not, eqb, sym, ap, ◌∙◌}
use Rattle.std.specs.Prelude.{option_map}
use Rattle.bgp_attr.specs.declared.attr.Attr.{Attr}
use Rattle.bgp_attr.specs.Prelude.{type_row, TlvValue}
use Rattle.bgp_update.specs.declared.kept_view.TheConstants.{TYPES}
use Rattle.bgp_update.specs.Prelude.{tlv_placed}
use Rattle.bgp_update.proofs.Placed.{none_placed}
use Rattle.bgp_update.proofs.kept_view.KeptView.new.Goals as goal

pub invariant_of-result : goal.invariant_of-result
invariant_of-result c = record { placed = record { each = λ kind t is. let none = ap (tlv_placed c.args.field.now) (sym (none_placed TYPES kind)) ∙ is in absurd cc } }

pub returns-clause-value : goal.returns-clause-value
returns-clause-value c =
    let value : TlvValue → Attr = λ t. (type_row c.args.ctx.now c.args.has_nlri t).value in
    λ i. record { known = λ kind. option_map value (tlv_placed c.args.field.now (none_placed TYPES kind i)); others = false }

pub returns-clause-seen : goal.returns-clause-seen
returns-clause-seen c = λ i kind. not (eqb (none_placed TYPES kind i) 0)
