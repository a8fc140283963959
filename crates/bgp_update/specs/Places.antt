-- Where in the field the kept attributes of a message are, by type.
use Rattle.std.specs.Prelude.{◌≡◌, ℕ, zero, suc, Bool, true, List, Option, None, Some, slice_index_or, if◌then◌else◌, ◌==◌, IsTrue}
use Rattle.bgp_open.specs.declared.context.Context.{Context}
use Rattle.bgp_attr.specs.Prelude.{is_kept, is_recognised, judgement, TlvValue, tlv_at}

-- the attribute of an entry, which is 0 for none, else one more than its offset in the field: none too where no attribute begins there
abbrev pub tlv_placed : List ℕ → ℕ → Option TlvValue
tlv_placed field zero = None
tlv_placed field (suc at) = tlv_at field at

-- the attributes by type, with this one for a type
abbrev pub placed_also : ℕ → Option TlvValue → (ℕ → Option TlvValue) → ℕ → Option TlvValue
placed_also kind t placed = λ k. if k == kind then t else placed k

-- the attribute is of this type, which is recognised, and it is kept
abbrev pub IsKeptAs : Context → Bool → ℕ → TlvValue → Type 0
IsKeptAs ctx has_nlri kind t = (t.kind ≡ kind) × (is_recognised kind ≡ true) × IsTrue (is_kept (judgement ctx has_nlri t))

-- where an attribute is at the offset of a type, it is of that type and kept
pub record ArePlaced (ctx : Context) (has_nlri : Bool) (field places : List ℕ) : Type 0 where
  pub each : (kind : ℕ) (t : TlvValue) → tlv_placed field (slice_index_or places kind 0) ≡ Some t → IsKeptAs ctx has_nlri kind t
