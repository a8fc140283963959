-- How a message is split into fields, one after another.
use Rattle.std.specs.Prelude.{ℕ, zero, suc, ◌+◌, ◌&&◌, nat_lt, nat_le, List, [], ◌∷◌, ◌++◌, length, take, drop, Option, None, Some, if◌then◌else◌}
use Rattle.bgp_fields.specs.declared.field.Field.{Field}
use Rattle.bgp_fields.specs.declared.field.Group.{Group}
use Rattle.bgp_fields.specs.declared.kind.FieldKind.{FieldKind}
use Rattle.bgp_fields.specs.declared.kind.FieldKind.TheVariants.{Unread}

-- A plan for the next field: its length, and whether an attribute, a parameter or a capability of a code begins with it; then the octets inside it,
-- their number and the part that they are; and then the part that follows
pub record Plan (I S : Type 0) : Type 0 where
  pub kind : FieldKind
  pub len : ℕ
  pub begins : Option ℕ
  pub inner : I
  pub inner_len : ℕ
  pub next : S

-- The plan where n octets are left. Where they end before the octets inside do, all after the field can't be read, which is the part `stuck`; where
-- they end before the field does, or it has no octets, it can't be read either
abbrev pub fit : {I S : Type 0} → S → Plan I S → ℕ → Plan I S
fit stuck p n =
    if nat_lt 0 p.len && nat_le p.len n
    then (if nat_le (p.len + p.inner_len) n then p else record p { inner_len = 0; next = stuck })
    else record p { kind = Unread; len = n; begins = None; inner_len = 0; next = stuck }

-- what the fields from this offset on belong to, where an attribute, a parameter or a capability of a code begins there, or none does
abbrev pub group_from : ℕ → Option ℕ → Option Group → Option Group
group_from at None group = group
group_from at (Some code) group = Some (record { at = at; code = code })

-- the fields of octets, the first of which has this offset in the message and belongs to this group
abbrev pub Telling : Type 0
Telling = ℕ → Option Group → List ℕ → List Field

-- the next field, those of the octets inside, and those of what follows
abbrev pub told : {I S : Type 0} → (I → Telling) → (S → Telling) → Plan I S → Telling
told inside later p at group b =
    record { at = at; len = p.len; kind = p.kind; group = group_from at p.begins group }
    ∷ (inside p.inner (at + p.len) (group_from at p.begins group) (take p.inner_len (drop p.len b))
    ++ later p.next (at + p.len + p.inner_len) (group_from at p.begins group) (drop (p.len + p.inner_len) b))

-- the fields of a part: n is at least the number of octets, since each field has one
abbrev pub walk_within : {I S : Type 0} → ℕ → S → (S → List ℕ → Plan I S) → (I → Telling) → S → Telling
walk_within zero stuck plan inside part at group b = []
walk_within (suc n) stuck plan inside part at group [] = []
walk_within (suc n) stuck plan inside part at group (x ∷ b) =
    told inside (walk_within n stuck plan inside) (fit stuck (plan part (x ∷ b)) (length (x ∷ b))) at group (x ∷ b)

unfoldable pub walk : {I S : Type 0} → S → (S → List ℕ → Plan I S) → (I → Telling) → S → Telling
walk stuck plan inside part at group b = walk_within (length b) stuck plan inside part at group b
