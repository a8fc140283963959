-- Attributes and capabilities that aren't recognised, in words: only printed, no verdict depends on them.
use Rattle.std.specs.Prelude.{ℕ, List, [], Option, None, Some}
use Rattle.bgp_fields.specs.declared.field.Group.{Group}
use Rattle.bgp_text.specs.Below.{FieldKind}
use Rattle.bgp_text.specs.AttributeValues.{attribute_text}
use Rattle.bgp_text.specs.CapabilityValues.{capability_text}

-- the type of the attribute, or the code of the capability, that a field belongs to: 0 if none
abbrev pub code_of : Option Group → ℕ
code_of None = 0
code_of (Some group) = group.code

-- the value of a field in words, where that depends on more than its kind
unfoldable pub detail_text : ℕ → FieldKind → List ℕ → List ℕ
detail_text code FieldKind.AttributeValue b = attribute_text code b
detail_text code FieldKind.CapabilityValue b = capability_text code b
detail_text code _ b = []
