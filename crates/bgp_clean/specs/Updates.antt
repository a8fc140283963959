-- The messages that replace an UPDATE: withdrawn routes, then NLRI, then MP_REACH_NLRI, none of which mixes with another (RFC 7606, section 5.1).
use Rattle.std.specs.Prelude.{ℕ, Bool, ◌||◌, ◌==◌, nat_lt, List, [], ◌∷◌, ◌++◌, length, Option, None, Some, if◌then◌else◌}
use Rattle.bgp_numbers.specs.declared.afi.TheConstants.{IPV6}
use Rattle.bgp_prefix.specs.Prelude.{PrefixValue}
use Rattle.bgp_attr.specs.declared.mp.MpReach.{MpReach}
use Rattle.bgp_attr.specs.declared.mp.MpReach.TheVariants as reach
use Rattle.bgp_attr.specs.declared.mp.MpUnreach.{MpUnreach}
use Rattle.bgp_update.specs.declared.attrs.Attrs.{Attrs}
use Rattle.bgp_update.specs.declared.routes.Routes.{Routes}
use Rattle.bgp_update.specs.declared.update.Update.{Update}
use Rattle.bgp_update.specs.Prelude.{no_attrs, gone_ip4, gone_ip6, reached_ip4, reached_ip6}
use Rattle.bgp_update.specs.Without.{attrs_without, update_without}
pub use Rattle.bgp_update.specs.EndOfRib.{bare_family, family_of_kept, family_of_marks, end_of_rib}

-- ---- withdrawn routes

abbrev pub unreach_of : List PrefixValue → Option MpUnreach
unreach_of [] = None
unreach_of (route ∷ routes) = Some (MpUnreach.Ip6 (route ∷ routes))

-- the UPDATE that withdraws these routes: IPv4 in Withdrawn Routes, IPv6 in MP_UNREACH_NLRI
abbrev pub withdrawal : Routes → Update
withdrawal r = record { withdrawn = r.ip4; attrs = record no_attrs { mp_unreach = unreach_of r.ip6 }; nlri = [] }

abbrev pub has_any : Routes → Bool
has_any r = nat_lt 0 (length r.ip4) || nat_lt 0 (length r.ip6)

-- those that an UPDATE withdraws, those of NLRI, and those of MP_REACH_NLRI
abbrev pub gone_routes : Update → Routes
gone_routes u = record { ip4 = u.withdrawn ++ gone_ip4 u.attrs.mp_unreach; ip6 = gone_ip6 u.attrs.mp_unreach }

abbrev pub nlri_routes : Update → Routes
nlri_routes u = record { ip4 = u.nlri; ip6 = [] }

abbrev pub reached_routes : Update → Routes
reached_routes u = record { ip4 = reached_ip4 u.attrs.mp_reach; ip6 = reached_ip6 u.attrs.mp_reach }

-- ---- announced routes

-- those of NLRI, with the attributes but for the two that carry routes
abbrev pub nlri_part : Update → Update
nlri_part u = record { withdrawn = []; attrs = record u.attrs { mp_reach = None; mp_unreach = None }; nlri = u.nlri }

-- those of MP_REACH_NLRI: where they are of IPv4, its next hop is the NEXT_HOP, and they are the NLRI (RFC 4271, section 4.3)
abbrev pub hop_part : Option MpReach → Option (List ℕ)
hop_part (Some (reach.Ip4 hop (route ∷ routes))) = Some hop
hop_part _ = None

abbrev pub reach_left : Option MpReach → Option MpReach
reach_left (Some (reach.Ip4 hop routes)) = None
reach_left r = r

abbrev pub reached_part : Update → Update
reached_part u = record {
  withdrawn = [];
  attrs = record u.attrs { next_hop = hop_part u.attrs.mp_reach; mp_reach = reach_left u.attrs.mp_reach; mp_unreach = None };
  nlri = reached_ip4 u.attrs.mp_reach;
}

-- ---- all parts, each where it has routes. An announcement that is refused is passed on as the withdrawal of its routes

abbrev pub listed : Bool → Update → List Update
listed there u = if there then u ∷ [] else []

abbrev pub unless_refused : Bool → Update → Routes → Update
unless_refused refused u routes = if refused then withdrawal routes else u

abbrev pub parts_handed : (Update → Bool) → Update → List Update
parts_handed refuses u =
    listed (has_any (gone_routes u)) (withdrawal (gone_routes u)) ++
    (listed (has_any (nlri_routes u)) (unless_refused (refuses (nlri_part u)) (nlri_part u) (nlri_routes u)) ++
    listed (has_any (reached_routes u)) (unless_refused (refuses (reached_part u)) (reached_part u) (reached_routes u)))

-- without the unrecognised attributes that are left out by type
abbrev pub cleaned_attrs : (ℕ → Bool) → Attrs → Attrs
cleaned_attrs drops a = attrs_without drops a

abbrev pub cleaned_update : (ℕ → Bool) → Update → Update
cleaned_update drops u = update_without drops u

-- ---- an End-of-RIB (RFC 4724, section 2)

abbrev pub end_unreach : Bool → Option MpUnreach
end_unreach ip6 = if ip6 then Some (MpUnreach.Ip6 []) else None

-- that of IPv4 is the empty UPDATE
abbrev pub end_of : ℕ → Update
end_of family = record { withdrawn = []; attrs = record no_attrs { mp_unreach = end_unreach (family == IPV6) }; nlri = [] }
