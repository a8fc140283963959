-- The fields that an iterator has left.
use Rattle.std.specs.Prelude.{ℕ, ◌+◌, List, ◌++◌, length, None}
use Rattle.bgp_fields.specs.declared.field.Field.{Field}
use Rattle.bgp_fields.specs.declared.iter.FieldIter.{FieldIter}
use Rattle.bgp_fields.specs.Fields.{value_fields_in, section_fields_in, message_fields_in}

-- the offsets at which the section that was begun continues, and the message
abbrev pub section_at : FieldIter → ℕ
section_at it = it.at + length it.value_octets.now

abbrev pub message_at : FieldIter → ℕ
message_at it = section_at it + length it.section_octets.now

-- the fields of the value that was begun, those of the section, and those of the message
abbrev pub fields_left : FieldIter → List Field
fields_left it =
    value_fields_in it.reading it.value it.at it.value_group it.value_octets.now
    ++ (section_fields_in it.reading it.section (section_at it) it.section_group it.section_octets.now
    ++ message_fields_in it.reading it.message (message_at it) None it.message_octets.now)
