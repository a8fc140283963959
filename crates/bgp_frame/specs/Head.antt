-- A header of 19 octets: what it says, or its first fault (RFC 4271, sections 4.1 and 6.1).
use Rattle.std.specs.Prelude.{ℕ, Bool, not, ◌||◌, nat_eq, nat_lt, List, [], ◌∷◌, ◌++◌, replicate, slice_index, Option, None, Some, Result, Ok, Err, if◌then◌else◌}
use Rattle.std.specs.List.{starts_with}
use Rattle.std.specs.Int.{w16, to_be_bytes, from_be_bytes}
use Rattle.bgp_numbers.specs.declared.error.TheConstants.{MESSAGE_HEADER, NOT_SYNCHRONIZED, BAD_MESSAGE_LENGTH, BAD_MESSAGE_TYPE}
use Rattle.bgp_frame.specs.declared.kind.Kind.{Kind}
use Rattle.bgp_frame.specs.declared.header.Header as declared
use Rattle.bgp_frame.specs.declared.fault.HeadFault.{HeadFault}
use Rattle.bgp_frame.specs.declared.fault.HeadFault.TheVariants as fault
use Rattle.bgp_frame.specs.declared.notification.Notification.{Notification}
use Rattle.bgp_frame.specs.Types.{Types}
use Rattle.bgp_frame.specs.Kind.{is_length_in, plain}

-- sixteen octets 255
abbrev pub marker : List ℕ
marker = replicate 16 255

abbrev pub has_marker : List ℕ → Bool
has_marker h = starts_with nat_eq h marker

abbrev pub length_field : List ℕ → ℕ
length_field h = from_be_bytes w16 (slice_index h 16 ∷ slice_index h 17 ∷ [])

abbrev pub type_field : List ℕ → ℕ
type_field h = slice_index h 18

-- a header without fault, of any grammar
abbrev pub HeaderIn : Type 0 → Type 0
HeaderIn K = declared.Header K

module _ {K : Type 0} (ty : Types K) where
  -- the header of a message of n octets: the Marker, the Length and the Type
  abbrev pub header_in : K → ℕ → List ℕ
  header_in kind n = marker ++ (to_be_bytes w16 n ++ (ty.code_of kind ∷ []))

  -- the tests that need the kind: that there is one, and that it allows the length
  abbrev pub head_for_in : Option K → ℕ → ℕ → Result (HeaderIn K) HeadFault
  head_for_in None code len = Err (fault.Kind code)
  head_for_in (Some kind) code len = if is_length_in ty kind len then Ok (record { kind = kind; len = len }) else Err (fault.Length len)

  -- the first 19 octets: the tests are those of RFC 4271, section 6.1, and their order this project's own
  unfoldable pub head_of_in : List ℕ → Result (HeaderIn K) HeadFault
  head_of_in h =
      if not (has_marker h) then Err fault.Marker else (
      if nat_lt (length_field h) 19 || nat_lt ty.limit (length_field h) then Err (fault.Length (length_field h)) else
      head_for_in (ty.kind_of (type_field h)) (type_field h) (length_field h))

-- ---- by the types of RFC 4271

abbrev pub Header : Type 0
Header = HeaderIn Kind

abbrev pub header : Kind → ℕ → List ℕ
header = header_in plain

abbrev pub head_for : Option Kind → ℕ → ℕ → Result Header HeadFault
head_for = head_for_in plain

abbrev pub head_of : List ℕ → Result Header HeadFault
head_of = head_of_in plain

-- the NOTIFICATION for a fault: the field that is at fault is its data
abbrev pub head_notification : HeadFault → Notification
head_notification fault.Marker = record { code = MESSAGE_HEADER; subcode = NOT_SYNCHRONIZED; info = record { items = [] } }
head_notification (fault.Length n) = record { code = MESSAGE_HEADER; subcode = BAD_MESSAGE_LENGTH; info = record { items = to_be_bytes w16 n } }
head_notification (fault.Kind code) = record { code = MESSAGE_HEADER; subcode = BAD_MESSAGE_TYPE; info = record { items = code ∷ [] } }
