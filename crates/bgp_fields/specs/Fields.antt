-- The fields of a message, from its first octet to its last.
use Rattle.std.specs.Prelude.{ℕ, List, [], ◌∷◌, length, None, Some}
use Rattle.bgp_open.specs.declared.context.Context.{Context}
use Rattle.bgp_paths.specs.declared.families.PathFamilies.{PathFamilies}
use Rattle.bgp_fields.specs.declared.field.Field.{Field}
use Rattle.bgp_fields.specs.declared.kind.FieldKind.TheVariants.{Unread}
use Rattle.bgp_fields.specs.declared.part.MessagePart.{MessagePart}
use Rattle.bgp_fields.specs.declared.part.SectionPart.{SectionPart}
use Rattle.bgp_fields.specs.declared.part.ValuePart.{ValuePart}
use Rattle.bgp_fields.specs.declared.reading.Reading.{Reading}
use Rattle.bgp_fields.specs.Parts.{value_plan_in, section_plan_in, message_plan_in, plain_reading}
use Rattle.bgp_fields.specs.Walk.{Telling, walk}

-- the fields of octets where there should be none: one `Unread`, unless there are no octets
abbrev pub no_fields : Unit {0} → Telling
no_fields none at group [] = []
no_fields none at group (x ∷ b) = record { at = at; len = length (x ∷ b); kind = Unread; group = group } ∷ []

-- the fields of the value of an attribute or a parameter
abbrev pub value_fields_in : Reading → ValuePart → Telling
value_fields_in r = walk (ValuePart.All Unread) (value_plan_in r) no_fields

-- those of Withdrawn Routes, Path Attributes or Optional Parameters
abbrev pub section_fields_in : Reading → SectionPart → Telling
section_fields_in r = walk (SectionPart.All Unread) (section_plan_in r) (value_fields_in r)

-- those of a message
abbrev pub message_fields_in : Reading → MessagePart → Telling
message_fields_in r = walk (MessagePart.All Unread) (message_plan_in r.paths) (section_fields_in r)

-- the same without path identifiers
abbrev pub value_fields : Context → ValuePart → Telling
value_fields ctx = value_fields_in (plain_reading ctx)

abbrev pub section_fields : Context → SectionPart → Telling
section_fields ctx = section_fields_in (plain_reading ctx)

abbrev pub message_fields : Context → MessagePart → Telling
message_fields ctx = message_fields_in (plain_reading ctx)

-- the fields of a whole message, or of a header with a fault, in a context
abbrev pub fields_of : Context → List ℕ → List Field
fields_of ctx octets = message_fields ctx MessagePart.Marker 0 None octets

-- the fields of a whole ROUTE-REFRESH that is accepted
abbrev pub refresh_fields : Context → List ℕ → List Field
refresh_fields ctx octets = message_fields ctx MessagePart.RefreshMarker 0 None octets

-- the fields of a whole message where the routes of these families have path identifiers (RFC 7911, section 3)
abbrev pub path_fields : Context → PathFamilies → List ℕ → List Field
path_fields ctx families octets = message_fields_in (record { ctx = ctx; paths = Some families }) MessagePart.Marker 0 None octets
