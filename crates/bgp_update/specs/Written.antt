-- The one written form of an UPDATE's body, and which UPDATEs aren't written.
use Rattle.std.specs.Prelude.{◌<◌, ℕ, Bool, true, not, ◌&&◌, ◌||◌, nat_lt, List, [], ◌∷◌, ◌++◌, length, Option, None, Some, is_none, is_some, if◌then◌else◌}
use Rattle.std.specs.List.{flat_map, list_any, AllByRecursion}
use Rattle.std.specs.Int.{w16, to_be_bytes}
use Rattle.bgp_open.specs.declared.context.Context.{Context}
use Rattle.bgp_prefix.specs.Prelude.{IsValid}
use Rattle.bgp_attr.specs.declared.attr.Attr.{Attr}
use Rattle.bgp_attr.specs.declared.opaque.Opaque.{Opaque}
use Rattle.bgp_attr.specs.Prelude.{is_recognised, canonical, run_octets, is_too_wide, is_as4, is_empty, has_as_zero, stands_twice, is_out_of_place, HasRanges}
use Rattle.bgp_update.specs.declared.attrs.Attrs.{Attrs}
use Rattle.bgp_update.specs.declared.invalid.Invalid.{Invalid}
use Rattle.bgp_update.specs.declared.invalid.Invalid.TheVariants as invalid
use Rattle.bgp_update.specs.declared.update.Update.{Update}
use Rattle.bgp_update.specs.Notes.{has_routes}
use Rattle.bgp_update.specs.Slots.{attr_list}

-- ---- the octets

-- each attribute in its written form, in the order in which they are written
abbrev pub attributes_octets : Context → Attrs → List ℕ
attributes_octets ctx a = flat_map (canonical ctx) (attr_list a)

abbrev pub body_octets : List ℕ → List ℕ → List ℕ → List ℕ
body_octets withdrawn attributes nlri = to_be_bytes w16 (length withdrawn) ++ (withdrawn ++ (to_be_bytes w16 (length attributes) ++ (attributes ++ nlri)))

-- the body that is written for an UPDATE
abbrev pub written_body : Context → Update → List ℕ
written_body ctx u = body_octets (run_octets u.withdrawn) (attributes_octets ctx u.attrs) (run_octets u.nlri)

-- the whole message, with 19 octets of header, has at most 4096
abbrev pub is_too_long : Context → Update → Bool
is_too_long ctx u = nat_lt 4077 (length (written_body ctx u))

-- ---- what isn't written

abbrev pub has_nlri : Update → Bool
has_nlri u = nat_lt 0 (length u.nlri)

-- the message announces a route
abbrev pub announces : Update → Bool
announces u = has_nlri u || has_routes u.attrs.mp_reach

-- 1: routes without ORIGIN or AS_PATH, or NLRI without NEXT_HOP
abbrev pub lacks_some : Update → Bool
lacks_some u = (announces u && (is_none u.attrs.origin || is_none u.attrs.as_path)) || (has_nlri u && is_none u.attrs.next_hop)

-- 2: NEXT_HOP without NLRI
abbrev pub has_needless_next_hop : Update → Bool
has_needless_next_hop u = is_some u.attrs.next_hop && not (has_nlri u)

-- 3: LOCAL_PREF on an external session
abbrev pub has_outside_preference : Context → Update → Bool
has_outside_preference ctx u = is_some u.attrs.local_pref && not ctx.internal

-- 8: types that aren't ascending, or that are recognised
abbrev pub rise_behind : ℕ → List Opaque → Bool
rise_behind kind [] = true
rise_behind kind (o ∷ os) = nat_lt kind o.kind && rise_behind o.kind os

abbrev pub rise : List Opaque → Bool
rise [] = true
rise (o ∷ os) = rise_behind o.kind os

abbrev pub has_bad_others : List Opaque → Bool
has_bad_others others = not (rise others) || list_any (λ o. is_recognised o.kind) others

abbrev pub any_attr : (Attr → Bool) → Update → Bool
any_attr test u = list_any test (attr_list u.attrs)

abbrev pub refused_if : Bool → Invalid → Option Invalid → Option Invalid
refused_if applies why later = if applies then Some why else later

-- the refusal of the lowest number, where there is one
abbrev pub invalid_of : Context → Update → Option Invalid
invalid_of ctx u =
    refused_if (lacks_some u) invalid.Missing (
    refused_if (has_needless_next_hop u) invalid.NextHop (
    refused_if (has_outside_preference ctx u) invalid.LocalPref (
    refused_if (any_attr (is_too_wide ctx) u) invalid.AsWidth (
    refused_if (ctx.as4 && any_attr is_as4 u) invalid.As4 (
    refused_if (any_attr (is_out_of_place ctx) u) invalid.Family (
    refused_if (any_attr is_empty u) invalid.Empty (
    refused_if (has_bad_others u.attrs.others) invalid.Others (
    refused_if (any_attr has_as_zero u) invalid.AsZero (
    refused_if (any_attr stands_twice u) invalid.Twice
    None)))))))))

-- the UPDATE can be written in the context
abbrev pub is_valid : Context → Update → Bool
is_valid ctx u = is_none (invalid_of ctx u)

-- each number is within its field, and each prefix one of its family, as in each value of the program
pub record HasUpdateRanges (u : Update) : Type 0 where
  pub withdrawn : AllByRecursion (IsValid 4) u.withdrawn
  pub attributes : AllByRecursion HasRanges (attr_list u.attrs)
  pub others : AllByRecursion (λ o. o.kind < 256) u.attrs.others
  pub nlri : AllByRecursion (IsValid 4) u.nlri
