-- The values of attributes, as functions of their octets (RFC 4271, section 4.3; RFC 1997, 4760, 6793 and 8092).
use Rattle.std.specs.Prelude.{ℕ, Bool, ◌==◌, List, take, drop, slice_index, if◌then◌else◌}
use Rattle.std.specs.Int.{w32, from_be_bytes}
use Rattle.bgp_open.specs.declared.context.Context.{Context}
use Rattle.bgp_attr.specs.declared.aggregator.Aggregator.{Aggregator}
use Rattle.bgp_attr.specs.declared.communities.Communities.{Communities}
use Rattle.bgp_attr.specs.declared.communities.LargeCommunities.{LargeCommunities}
use Rattle.bgp_attr.specs.declared.opaque.Opaque.{Opaque}
use Rattle.bgp_attr.specs.declared.origin.Origin.{Origin}
use Rattle.bgp_attr.specs.declared.origin.Origin.TheVariants.{Igp, Egp, Incomplete}
use Rattle.bgp_attr.specs.declared.path.As4Path.{As4Path}
use Rattle.bgp_attr.specs.declared.path_form.PathForm.{PathForm}
use Rattle.bgp_attr.specs.Flags.{is_transitive, is_partial}
use Rattle.bgp_attr.specs.Tlv.{TlvValue}
use Rattle.bgp_attr.specs.Numbers.{number_width, number_in, numbers_of, triples_of, each_once}
use Rattle.bgp_attr.specs.Path.{as_number, path_of}

-- 0 is IGP, 1 EGP, 2 INCOMPLETE
abbrev pub origin_of : List ℕ → Origin
origin_of value =
    if slice_index value 0 == 0 then Igp else (
    if slice_index value 0 == 1 then Egp else
    Incomplete)

-- the form of AS_PATH: AS numbers of four octets where both speakers offer them (RFC 6793, section 4)
abbrev pub as_path_form : Context → PathForm
as_path_form ctx = record { wide = ctx.as4; confederations = Bool.false }

-- the form of AS4_PATH (RFC 6793, section 3)
abbrev pub as4_path_form : PathForm
as4_path_form = record { wide = Bool.true; confederations = Bool.true }

-- a number of four octets
abbrev pub four_of : List ℕ → ℕ
four_of value = from_be_bytes w32 value

-- an AS number, and an address after it
abbrev pub aggregator_of : Bool → TlvValue → Aggregator
aggregator_of wide t = record {
  asn = as_number (number_in wide (take (number_width wide) t.value));
  addr = drop (number_width wide) t.value;
  partial = is_partial t.flags;
}

abbrev pub communities_of : TlvValue → Communities
communities_of t = record { partial = is_partial t.flags; values = numbers_of Bool.true t.value }

abbrev pub large_of : TlvValue → LargeCommunities
large_of t = record { partial = is_partial t.flags; values = each_once (triples_of t.value) }

abbrev pub as4_path_of : TlvValue → As4Path
as4_path_of t = record { partial = is_partial t.flags; path = path_of as4_path_form t.value }

abbrev pub opaque_of : TlvValue → Opaque
opaque_of t = record { kind = t.kind; transitive = is_transitive t.flags; partial = is_partial t.flags; value = t.value }
