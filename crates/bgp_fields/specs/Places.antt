-- The span of each fault: for a note its attribute, for a reset the octets that cause it (RFC 4271, section 6).
use Rattle.std.specs.Prelude.{◌≡◌, ℕ, ◌<◌, ◌≤◌, ◌+◌, ◌-◌, min, Bool, true, false, not, ◌&&◌, ◌==◌, nat_le, nat_lt, List, [], ◌∷◌, length, take, drop, Option, None, Some, option_map, if◌then◌else◌}
use Rattle.std.specs.List.{AllByRecursion}
use Rattle.std.specs.Option.{option_or}
use Rattle.bgp_wire.specs.Prelude.{when, pieces}
use Rattle.bgp_numbers.specs.declared.TheConstants.{VERSION}
use Rattle.bgp_numbers.specs.declared.parameter.TheConstants.{CAPABILITIES}
use Rattle.bgp_frame.specs.declared.fault.HeadFault.{HeadFault}
use Rattle.bgp_frame.specs.declared.kind.Kind.{Kind}
use Rattle.bgp_frame.specs.Frame as frame
use Rattle.bgp_frame.specs.Step.{Step}
use Rattle.bgp_frame.specs.declared.step.Step.TheVariants as step
use Rattle.bgp_frame.specs.Prelude.{ShowsFront, message_in}
use Rattle.bgp_open.specs.declared.context.Context.{Context}
use Rattle.bgp_open.specs.Prelude.{one_capability, version_of, length_of, parameters_of, hold_of, id_of, is_short_hold, is_zero_id, one_parameter}
use Rattle.bgp_prefix.specs.Prelude.{octets_for, run_of}
use Rattle.bgp_attr.specs.declared.judged.Judged.{Judged}
use Rattle.bgp_attr.specs.declared.why.Why.{Why}
use Rattle.bgp_attr.specs.Prelude.{TlvValue, one_tlv}
use Rattle.bgp_update.specs.declared.note.Note.{Note}
use Rattle.bgp_update.specs.Prelude.{Mark, marks_of, Parts, attributes_at, behind_two, parts_of}
use Rattle.bgp_msg.specs.Prelude.{out_of, is_reset}
use Rattle.bgp_fields.specs.declared.field.Span.{Span}

-- a number of octets from an offset on
abbrev pub span : ℕ → ℕ → Span
span at len = record { at = at; len = len }

-- ---- headers (RFC 4271, section 6.1)

-- the offset of the first octet that isn't 255, in octets that begin at this offset
abbrev pub first_other : ℕ → List ℕ → ℕ
first_other at [] = at
first_other at (x ∷ b) = if x == 255 then first_other (at + 1) b else at

-- an octet of the Marker, the Length or the Type
abbrev pub header_place : List ℕ → HeadFault → Span
header_place octets HeadFault.Marker = span (first_other 0 octets) 1
header_place octets (HeadFault.Length n) = span 16 2
header_place octets (HeadFault.Kind code) = span 18 1

-- ---- UPDATEs (RFC 4271, section 6.3; RFC 7606)

-- the length of the attribute at the front, or of all octets where it is cut off
abbrev pub attribute_extent : List ℕ → Option (TlvValue × List ℕ) → ℕ
attribute_extent b None = length b
attribute_extent b (Some found) = length (found.0).whole

-- the attribute at this offset of the field
abbrev pub attribute_place : Parts → ℕ → Span
attribute_place p at = span (19 + attributes_at p + at) (attribute_extent (drop at p.attributes) (one_tlv (drop at p.attributes)))

-- it calls for a reset, or else for a withdrawal
abbrev pub asks_for : Bool → Judged → Bool
asks_for resets (Judged.Reset n) = resets
asks_for resets (Judged.Withdraw w) = not resets
asks_for resets _ = false

-- the offset in the field of the first attribute that does
abbrev pub first_asking : Bool → List Mark → Option ℕ
first_asking resets [] = None
first_asking resets (m ∷ marks) = if asks_for resets m.judged then Some m.at else first_asking resets marks

-- the first attribute that does
abbrev pub asking_place : Bool → Parts → List Mark → Option Span
asking_place resets p marks = option_map (attribute_place p) (first_asking resets marks)

-- the prefix at the front of the rest, which is too long or goes past the end: those of its octets that exist
abbrev pub bad_prefix : ℕ → List ℕ → Option Span
bad_prefix at [] = None
bad_prefix at (l ∷ rest) = Some (span at (1 + min (octets_for l) (length rest)))

-- the first bad prefix of a field that begins at this offset
abbrev pub run_place : ℕ → List ℕ → Option Span
run_place at b = bad_prefix (at + (length b - length (run_of 4 b).1)) (run_of 4 b).1

-- the length field that is too large: Total Path Attribute Length if it is present, else Withdrawn Routes Length
abbrev pub length_place : Option (List ℕ × List ℕ) → Span
length_place None = span 19 2
length_place (Some withdrawn) = if nat_le 2 (length withdrawn.1) then span (21 + length withdrawn.0) 2 else span 19 2

-- in the order of the verdict: an attribute that calls for a reset, Withdrawn Routes, NLRI, and else an attribute that calls for a withdrawal in a
-- message that announces nothing
abbrev pub parts_place : Parts → List Mark → Option Span
parts_place p marks =
    option_or (asking_place true p marks) (
    option_or (run_place 21 p.withdrawn) (
    option_or (run_place (19 + attributes_at p + length p.attributes) p.nlri)
    (asking_place false p marks)))

abbrev pub update_place : Context → List ℕ → Option Parts → Option Span
update_place ctx body None = Some (length_place (behind_two body))
update_place ctx body (Some p) = parts_place p (marks_of ctx p)

-- ---- notes

abbrev pub says_missing : Why → Bool
says_missing Why.Missing = true
says_missing _ = false

-- the offset is within the path attributes
abbrev pub is_attribute : Parts → ℕ → Bool
is_attribute p at = nat_le (attributes_at p) at && nat_lt at (attributes_at p + length p.attributes)

-- the attribute that a note on a body is about; none for a missing one
abbrev pub note_place_in : Note → Option Parts → Option Span
note_place_in note None = None
note_place_in note (Some p) =
    if says_missing note.why then None else (
    if is_attribute p note.at then Some (attribute_place p (note.at - attributes_at p)) else None)

abbrev pub note_place : List ℕ → Note → Option Span
note_place body note = note_place_in note (parts_of body)

-- ---- OPENs (RFC 4271, section 6.2)

-- the length of the parameter or capability at the front, or of those of its octets that exist
abbrev pub item_extent : List ℕ → ℕ
item_extent (code ∷ n ∷ value) = 2 + min n (length value)
item_extent b = length b

-- the capability that can't be read in a value that begins at this offset
abbrev pub capability_place : ℕ → List ℕ → Span
capability_place at value =
    span (at + (length value - length (pieces one_capability value).1)) (item_extent (pieces one_capability value).1)

-- the parameter that can't be read at the front of octets that begin at this offset, or its capability that can't
abbrev pub parameter_place : ℕ → List ℕ → Option Span
parameter_place at [] = None
parameter_place at (code ∷ []) = Some (span at 1)
parameter_place at (code ∷ n ∷ value) =
    if (code == CAPABILITIES) && nat_le n (length value) then Some (capability_place (at + 2) (take n value))
    else Some (span at (item_extent (code ∷ n ∷ value)))

-- the first parameter that can't be read
abbrev pub parameters_place : List ℕ → Option Span
parameters_place parameters =
    parameter_place (29 + (length parameters - length (pieces one_parameter parameters).1)) (pieces one_parameter parameters).1

-- the field that the first failed test is about
abbrev pub open_place : List ℕ → Option Span
open_place body =
    option_or (when (not (version_of body == VERSION)) (span 19 1)) (
    option_or (when (not (length_of body == length (parameters_of body))) (span 28 1)) (
    option_or (parameters_place (parameters_of body)) (
    option_or (when (is_short_hold (hold_of body)) (span 22 2))
    (when (is_zero_id (id_of body)) (span 24 4)))))

-- ---- messages

abbrev pub body_place : Context → Kind → List ℕ → Option Span
body_place ctx Kind.Open body = open_place body
body_place ctx Kind.Update body = update_place ctx body (parts_of body)
body_place ctx _ body = None

-- the octets of a whole message that cause a reset, if its outcome is one
abbrev pub reset_place : Context → frame.Message → Option Span
reset_place ctx m = if is_reset (out_of ctx m) then body_place ctx m.kind m.body else None

-- by what octets begin with: less than a message; a message, whatever follows it; or a header with a fault, whatever follows that
abbrev pub front_place : Context → List ℕ → Step → Option Span
front_place ctx octets step.More = None
front_place ctx octets (step.Frame f) = reset_place ctx (message_in f)
front_place ctx octets (step.Fault fault) = Some (header_place octets fault)

-- the octets that cause a reset, by what these octets begin with, if it does
pub record IsResetPlace (ctx : Context) (octets : List ℕ) (place : Option Span) : Type 0 where
  pub found : Step
  pub shows : ShowsFront octets found
  pub is : place ≡ front_place ctx octets found

-- there is a span: at least one octet, within the first n
abbrev pub HasPlace : ℕ → Option Span → Type 0
HasPlace n None = ⊥
HasPlace n (Some s) = (0 < s.len) × (s.at + s.len ≤ n)

-- each note on a body has a span, unless it says that an attribute is missing
abbrev pub ArePlaced : ℕ → List ℕ → List Note → Type 0
ArePlaced n body notes = AllByRecursion (λ note. says_missing note.why ≡ false → HasPlace n (note_place body note)) notes
