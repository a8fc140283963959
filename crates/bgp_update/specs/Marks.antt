-- The judgement of each attribute of a field, by its offset (RFC 4271, section 6.3; RFC 7606, sections 3 to 5).
use Rattle.std.specs.Prelude.{ℕ, ◌-◌, Bool, ◌&&◌, ◌||◌, ◌==◌, nat_lt, List, [], ◌∷◌, ◌++◌, length, if◌then◌else◌}
use Rattle.bgp_wire.specs.Prelude.{also, none_of_them}
use Rattle.bgp_numbers.specs.declared.attribute.TheConstants.{MP_REACH_NLRI, MP_UNREACH_NLRI}
use Rattle.bgp_numbers.specs.declared.error.TheConstants.{UPDATE_MESSAGE, MALFORMED_ATTRIBUTE_LIST}
use Rattle.bgp_frame.specs.declared.notification.Notification.{Notification}
use Rattle.bgp_open.specs.declared.context.Context.{Context}
use Rattle.bgp_attr.specs.declared.judged.Judged.{Judged}
use Rattle.bgp_attr.specs.Prelude.{PlacedTlv, TlvValue, tlvs_of, placed_from, judgement}
use Rattle.bgp_attr.specs.declared.judged.Judged.TheVariants as judged
use Rattle.bgp_attr.specs.declared.why.Why.TheVariants as why
use Rattle.bgp_update.specs.Parts.{Parts, has_nlri}

-- a mark: an attribute's offset in the field, its type, and its judgement
pub record Mark : Type 0 where
  pub at : ℕ
  pub kind : ℕ
  pub judged : Judged

-- a reset of code 3, subcode 1 (Malformed Attribute List), without data
abbrev pub malformed : Notification
malformed = record { code = UPDATE_MESSAGE; subcode = MALFORMED_ATTRIBUTE_LIST; info = record { items = [] } }

-- the two types that carry routes
abbrev pub carries_routes : ℕ → Bool
carries_routes kind = (kind == MP_REACH_NLRI) || (kind == MP_UNREACH_NLRI)

-- a second attribute of a type: the first is kept (RFC 7606, section 3, item g)
abbrev pub repeated : ℕ → Judged
repeated kind = if carries_routes kind then judged.Reset malformed else judged.Discard why.Repeated

-- the judgement of an attribute after others, of which these types were seen
abbrev pub judged_behind : Context → Bool → (ℕ → Bool) → TlvValue → Judged
judged_behind ctx nlri seen t = if seen t.kind then repeated t.kind else judgement ctx nlri t

-- the marks of attributes after others, of which these types were seen
abbrev pub marks_behind : Context → Bool → (ℕ → Bool) → List PlacedTlv → List Mark
marks_behind ctx nlri seen [] = []
marks_behind ctx nlri seen (p ∷ ps) =
    record { at = p.at; kind = p.tlv.kind; judged = judged_behind ctx nlri seen p.tlv }
    ∷ marks_behind ctx nlri (also p.tlv.kind seen) ps

-- the type of an attribute that is cut off: its second octet, 0 where there is none
abbrev pub cut_kind : List ℕ → ℕ
cut_kind (flags ∷ kind ∷ rest) = kind
cut_kind _ = 0

-- An attribute that is cut off: the session is reset where its type carries routes, which can't be read; else its content is unknown and the
-- routes are withdrawn (RFC 7606, section 4)
abbrev pub cut : List ℕ → Judged
cut rest = if nat_lt 1 (length rest) && carries_routes (cut_kind rest) then judged.Reset malformed else judged.Withdraw why.Cut

-- the mark of what is left after the last whole attribute, if anything
abbrev pub cut_mark : ℕ → List ℕ → List Mark
cut_mark at [] = []
cut_mark at (flags ∷ rest) = record { at = at; kind = cut_kind (flags ∷ rest); judged = cut (flags ∷ rest) } ∷ []

-- the attributes of a field with their offsets
abbrev pub placed_tlvs : List ℕ → List PlacedTlv
placed_tlvs field = placed_from 0 (tlvs_of field).0

-- the marks of a field: of the attributes by offset, then of one that is cut off
unfoldable pub field_marks : Context → Bool → List ℕ → List Mark
field_marks ctx nlri field =
    marks_behind ctx nlri none_of_them (placed_tlvs field) ++ cut_mark (length field - length (tlvs_of field).1) (tlvs_of field).1

-- the marks of the attributes of a message
abbrev pub marks_of : Context → Parts → List Mark
marks_of ctx p = field_marks ctx (has_nlri p) p.attributes
