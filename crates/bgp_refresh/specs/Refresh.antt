-- The body of a ROUTE-REFRESH: a family, a subtype, and what may follow (RFC 2918, section 3; RFC 7313, sections 3.2 and 5).
use Rattle.std.specs.Prelude.{◌≡◌, ◌==◌, ℕ, ◌+◌, ◌<◌, ◌^◌, Bool, true, false, not, ◌&&◌, List, [], ◌∷◌, ◌++◌, length, Result, Ok, Err, if◌then◌else◌}
use Rattle.std.specs.Int.{w16, to_be_bytes, from_be_bytes}
use Rattle.bgp_numbers.specs.declared.message.TheConstants.{ROUTE_REFRESH}
use Rattle.bgp_frame.specs.Prelude.{marker}
use Rattle.bgp_terms.specs.declared.refreshes.Refreshes.{Refreshes}
use Rattle.bgp_terms.specs.declared.refreshes.Refreshes.TheVariants as refreshes
use Rattle.bgp_refresh.specs.declared.fault.RefreshFault.{RefreshFault}
use Rattle.bgp_refresh.specs.declared.fault.RefreshFault.TheVariants as fault
use Rattle.bgp_refresh.specs.declared.mark.RefreshMark.{RefreshMark}
use Rattle.bgp_refresh.specs.declared.mark.RefreshMark.TheVariants as mark
use Rattle.bgp_refresh.specs.declared.view.RefreshView.{RefreshView}

-- the family, what the message is for, and the octets after the four that are defined
pub record Refresh : Type 0 where
  pub afi : ℕ
  pub safi : ℕ
  pub mark : RefreshMark
  pub rest : List ℕ

-- what a view shows
abbrev pub refresh_value : RefreshView → Refresh
refresh_value view = record { afi = view.afi; safi = view.safi; mark = view.mark; rest = view.rest.now }

-- a subtype has a meaning where enhanced refresh is agreed on; else its octet is reserved, and ignored when read
abbrev pub mark_of : Refreshes → ℕ → RefreshMark
mark_of refreshes.None subtype = mark.Request
mark_of refreshes.Plain subtype = mark.Request
mark_of refreshes.Enhanced subtype =
    if subtype == 0 then mark.Request else (
    if subtype == 1 then mark.Begin else (
    if subtype == 2 then mark.End else mark.Ignored subtype))

abbrev pub subtype_of : RefreshMark → ℕ
subtype_of mark.Request = 0
subtype_of mark.Begin = 1
subtype_of mark.End = 2
subtype_of (mark.Ignored subtype) = subtype

-- a BoRR and an EoRR have exactly four octets after the header
abbrev pub is_bound : RefreshMark → Bool
is_bound mark.Request = false
is_bound mark.Begin = true
is_bound mark.End = true
is_bound (mark.Ignored subtype) = false

abbrev pub is_nothing : List ℕ → Bool
is_nothing [] = true
is_nothing (octet ∷ later) = false

-- the body, or what is wrong with it: the length of a BoRR or an EoRR is tested before that of all others, where their subtype can be read
abbrev pub refresh_of : Refreshes → List ℕ → Result Refresh RefreshFault
refresh_of accepted (high ∷ low ∷ subtype ∷ safi ∷ rest) =
    if is_bound (mark_of accepted subtype) && not (is_nothing rest) then Err fault.Length else
    Ok (record { afi = from_be_bytes w16 (high ∷ low ∷ []); safi = safi; mark = mark_of accepted subtype; rest = rest })
refresh_of accepted (high ∷ low ∷ subtype ∷ []) = if is_bound (mark_of accepted subtype) then Err fault.Length else Err fault.Short
refresh_of accepted _ = Err fault.Short

-- ---- written

abbrev pub refresh_header : ℕ → List ℕ
refresh_header n = marker ++ (to_be_bytes w16 n ++ (ROUTE_REFRESH ∷ []))

abbrev pub refresh_body : Refresh → List ℕ
refresh_body r = to_be_bytes w16 r.afi ++ (subtype_of r.mark ∷ r.safi ∷ r.rest)

abbrev pub refresh_octets : Refresh → List ℕ
refresh_octets r = refresh_header (19 + length (refresh_body r)) ++ refresh_body r

-- a message that a speaker writes: nothing follows the four octets, and subtypes 0 to 2 are named by their meaning
pub record IsCanonical (r : Refresh) : Type 0 where
  pub afi : r.afi < 2 ^ 16
  pub nothing : r.rest ≡ []
  pub mark : mark_of refreshes.Enhanced (subtype_of r.mark) ≡ r.mark
