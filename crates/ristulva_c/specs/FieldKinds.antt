-- The kinds of fields by number, and their names.
use Rattle.std.specs.Prelude.{◌==◌, ℕ, List, [], ◌∷◌, Option, None, Some, MatchOption, if◌then◌else◌}
use Rattle.bgp_fields.specs.declared.kind.FieldKind.{FieldKind}
use Rattle.bgp_fields.specs.declared.kind.FieldKind.TheVariants as field
use Rattle.bgp_text.specs.FieldNames.{field_name}
use Rattle.ristulva_c.specs.declared.status.TheConstants.{RANGE}
use Rattle.ristulva_c.specs.Text.{Writing, IsLeft, IsWritten}

-- the number of a kind
abbrev pub number_of_kind : FieldKind → ℕ
number_of_kind field.Marker = 1
number_of_kind field.MessageLength = 2
number_of_kind field.MessageType = 3
number_of_kind field.Version = 4
number_of_kind field.MyAs = 5
number_of_kind field.HoldTime = 6
number_of_kind field.Identifier = 7
number_of_kind field.ParametersLength = 8
number_of_kind field.ParameterType = 9
number_of_kind field.ParameterLength = 10
number_of_kind field.CapabilityCode = 11
number_of_kind field.CapabilityLength = 12
number_of_kind field.CapabilityValue = 13
number_of_kind field.Afi = 14
number_of_kind field.Safi = 15
number_of_kind field.Reserved = 16
number_of_kind field.AsNumber = 17
number_of_kind field.WithdrawnLength = 18
number_of_kind field.AttributesLength = 19
number_of_kind field.AttributeFlags = 20
number_of_kind field.AttributeType = 21
number_of_kind field.AttributeLength = 22
number_of_kind field.Origin = 23
number_of_kind field.SegmentType = 24
number_of_kind field.SegmentCount = 25
number_of_kind field.Address = 26
number_of_kind field.Med = 27
number_of_kind field.LocalPref = 28
number_of_kind field.Community = 29
number_of_kind field.LargeCommunity = 30
number_of_kind field.NextHopLength = 31
number_of_kind field.NextHop = 32
number_of_kind field.LinkLocal = 33
number_of_kind field.AttributeValue = 34
number_of_kind field.WithdrawnPrefix = 35
number_of_kind field.UnreachPrefix4 = 36
number_of_kind field.UnreachPrefix6 = 37
number_of_kind field.ReachPrefix4 = 38
number_of_kind field.ReachPrefix6 = 39
number_of_kind field.NlriPrefix = 40
number_of_kind field.ErrorCode = 41
number_of_kind field.ErrorSubcode = 42
number_of_kind field.Data = 43
number_of_kind field.Unread = 44
number_of_kind field.Subtype = 45
number_of_kind field.PathIdentifier = 46

-- the meaning of a number in rows of numbers: that of its first row, nothing where it has no row
abbrev pub kind_in : List (ℕ × FieldKind) → ℕ → Option FieldKind
kind_in [] number = None
kind_in (row ∷ rows) number = if row.0 == number then Some row.1 else kind_in rows number

-- the kind of a number
unfoldable pub kind_of : ℕ → Option FieldKind
kind_of number = kind_in (
    (1, field.Marker) ∷ (
    (2, field.MessageLength) ∷ (
    (3, field.MessageType) ∷ (
    (4, field.Version) ∷ (
    (5, field.MyAs) ∷ (
    (6, field.HoldTime) ∷ (
    (7, field.Identifier) ∷ (
    (8, field.ParametersLength) ∷ (
    (9, field.ParameterType) ∷ (
    (10, field.ParameterLength) ∷ (
    (11, field.CapabilityCode) ∷ (
    (12, field.CapabilityLength) ∷ (
    (13, field.CapabilityValue) ∷ (
    (14, field.Afi) ∷ (
    (15, field.Safi) ∷ (
    (16, field.Reserved) ∷ (
    (17, field.AsNumber) ∷ (
    (18, field.WithdrawnLength) ∷ (
    (19, field.AttributesLength) ∷ (
    (20, field.AttributeFlags) ∷ (
    (21, field.AttributeType) ∷ (
    (22, field.AttributeLength) ∷ (
    (23, field.Origin) ∷ (
    (24, field.SegmentType) ∷ (
    (25, field.SegmentCount) ∷ (
    (26, field.Address) ∷ (
    (27, field.Med) ∷ (
    (28, field.LocalPref) ∷ (
    (29, field.Community) ∷ (
    (30, field.LargeCommunity) ∷ (
    (31, field.NextHopLength) ∷ (
    (32, field.NextHop) ∷ (
    (33, field.LinkLocal) ∷ (
    (34, field.AttributeValue) ∷ (
    (35, field.WithdrawnPrefix) ∷ (
    (36, field.UnreachPrefix4) ∷ (
    (37, field.UnreachPrefix6) ∷ (
    (38, field.ReachPrefix4) ∷ (
    (39, field.ReachPrefix6) ∷ (
    (40, field.NlriPrefix) ∷ (
    (41, field.ErrorCode) ∷ (
    (42, field.ErrorSubcode) ∷ (
    (43, field.Data) ∷ (
    (44, field.Unread) ∷ (
    (45, field.Subtype) ∷ (
    (46, field.PathIdentifier) ∷ (
    []))))))))))))))))))))))))))))))))))))))))))))))) number

-- the name of the kind of a number is written, where it has one
abbrev pub Names : ℕ → Writing → Type 0
Names number w = MatchOption (kind_of number) (IsLeft RANGE w) (λ k. IsWritten (field_name k) w)
