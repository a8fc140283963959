use Rattle.bgp_fields.proofs.Prelude.{ℕ, ◌+◌, List, [], ◌∷◌, Option, ap, ap₂, sym, ◌∙◌, Field, Group, FieldKind, AttributeFlags, AttributeType}
use Rattle.bgp_fields.proofs.Prelude.{AttributeLength, listed}
use Rattle.bgp_fields.proofs.Listings.{listed-three}
use Rattle.bgp_fields.proofs.listing.list_head.Goals as goal

pub returns : goal.returns
returns g c =
    let at = c.args.at in
    let told = g.T.Listed.told in
    let field : ℕ → ℕ → FieldKind → Option Group → Field = λ at len kind group. record { at = at; len = len; kind = kind; group = group } in
    let grouped = c.group_from-group.ensures in
    let flags = c.of.ensures ∙ ap told (c.field.ensures ∙ ap (field at 1 AttributeFlags) grouped) in
    let kind = c.of-2.ensures ∙ ap told (c.field-2.ensures ∙ ap (field (at + 1) 1 AttributeType) grouped) in
    let length = c.of-3.ensures ∙ ap told (c.field-3.ensures ∙ ap (field (at + 2) c.args.head.now.width AttributeLength) grouped) in
    sym (listed-three g.row.T.Denot c.args.count c.of.result c.of-2.result c.of-3.result c.args.list.now c.requires.room)
    ∙ ap (λ (xs : List g.row.T.Denot). listed c.args.count xs c.args.list.now)
    (ap₂ (λ (x : g.row.T.Denot) (xs : List g.row.T.Denot). x ∷ xs) flags
    (ap₂ (λ (x : g.row.T.Denot) (xs : List g.row.T.Denot). x ∷ xs) kind (ap (λ (x : g.row.T.Denot). x ∷ []) length)))
