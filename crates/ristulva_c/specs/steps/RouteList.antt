-- The cursor over the routes of an UPDATE, from its parts.
use Rattle.std.specs.Prelude.{◌+◌, ◌-◌, ℕ, Bool, true, false, length, min, Option, Some, None}
use Rattle.bgp_numbers.specs.declared.afi.TheConstants.{IPV4, IPV6}
use Rattle.bgp_numbers.specs.declared.attribute.TheConstants.{MP_REACH_NLRI, MP_UNREACH_NLRI}
use Rattle.bgp_open.specs.declared.context.Context.{Context}
use Rattle.bgp_attr.specs.declared.attr.Attr.TheVariants as attr
use Rattle.bgp_attr.specs.declared.judged.Judged.{Judged}
use Rattle.bgp_attr.specs.declared.mp.MpReach.{MpReach}
use Rattle.bgp_attr.specs.declared.mp.MpUnreach.{MpUnreach}
use Rattle.bgp_attr.specs.Prelude.{judgement, next_hop_length, PlacedTlv}
use Rattle.bgp_attr.specs.declared.judged.Judged.TheVariants as judged
use Rattle.bgp_attr.specs.declared.mp.MpReach.TheVariants as reach
use Rattle.bgp_attr.specs.declared.mp.MpUnreach.TheVariants as unreach
use Rattle.bgp_update.specs.Prelude.{Parts}
use Rattle.bgp_update.specs.Parts.{has_nlri}
use Rattle.bgp_msg.specs.declared.message.Message.TheVariants as message
use Rattle.bgp_msg.specs.declared.outcome.Outcome.{Outcome}
use Rattle.bgp_msg.specs.declared.outcome.Outcome.TheVariants as outcome
use Rattle.ristulva_c.specs.Opens.{flag_of}
use Rattle.ristulva_c.specs.Places.{first_of_type}
use Rattle.ristulva_c.specs.RouteList.{loses_ip6}
use Rattle.ristulva_c.specs.declared.prefixes.Prefixes.{Prefixes}
use Rattle.ristulva_c.specs.declared.route_list.RouteCursor.{RouteCursor}

abbrev pub no_prefixes : Prefixes
no_prefixes = record { at = 0; end = 0; afi = IPV4 }

abbrev pub no_routes : Bool → RouteCursor
no_routes loses = record { withdrawn = no_prefixes; unreached = no_prefixes; reached = no_prefixes; nlri = no_prefixes; announces = 0; loses_ip6 = flag_of loses }

abbrev pub reach_afi : MpReach → ℕ
reach_afi (reach.Ip4 hop routes) = IPV4
reach_afi (reach.Ip6 hop link routes) = IPV6

abbrev pub unreach_afi : MpUnreach → ℕ
unreach_afi (unreach.Ip4 routes) = IPV4
unreach_afi (unreach.Ip6 routes) = IPV6

-- the octets of an attribute's value from one of them on, where its field begins there
abbrev pub value_from : ℕ → ℕ → ℕ → PlacedTlv → Prefixes
value_from afi field skipped q = record {
  at = field + q.at + (length q.tlv.whole - length q.tlv.value) + min skipped (length q.tlv.value);
  end = field + q.at + (length q.tlv.whole - length q.tlv.value) + length q.tlv.value;
  afi = afi;
}

-- the prefixes of MP_REACH_NLRI or MP_UNREACH_NLRI, where it is kept
abbrev pub prefixes_by : ℕ → PlacedTlv → Judged → Prefixes
prefixes_by field q (judged.Keep (attr.MpReach r)) = value_from (reach_afi r) field (5 + next_hop_length q.tlv.value) q
prefixes_by field q (judged.Keep (attr.MpUnreach r)) = value_from (unreach_afi r) field 3 q
prefixes_by field q _ = no_prefixes

abbrev pub prefixes_at : Context → Bool → ℕ → Option PlacedTlv → Prefixes
prefixes_at ctx nlri field None = no_prefixes
prefixes_at ctx nlri field (Some q) = prefixes_by field q (judgement ctx nlri q.tlv)

abbrev pub cursor_of : Context → Bool → Bool → Parts → RouteCursor
cursor_of ctx announces loses p = record {
  withdrawn = record { at = 21; end = 21 + length p.withdrawn; afi = IPV4 };
  unreached = prefixes_at ctx (has_nlri p) (23 + length p.withdrawn) (first_of_type MP_UNREACH_NLRI p);
  reached = prefixes_at ctx (has_nlri p) (23 + length p.withdrawn) (first_of_type MP_REACH_NLRI p);
  nlri = record { at = 23 + length p.withdrawn + length p.attributes; end = 23 + length p.withdrawn + length p.attributes + length p.nlri; afi = IPV4 };
  announces = flag_of announces;
  loses_ip6 = flag_of loses;
}

abbrev pub cursor_in : Context → Bool → Bool → Option Parts → RouteCursor
cursor_in ctx announces loses None = no_routes loses
cursor_in ctx announces loses (Some p) = cursor_of ctx announces loses p

abbrev pub cursor_by : Context → Option Parts → Outcome → RouteCursor
cursor_by ctx parts (outcome.Took (message.Update u) notes) = cursor_in ctx true (loses_ip6 ctx parts (outcome.Took (message.Update u) notes)) parts
cursor_by ctx parts (outcome.Took (message.Open o) notes) = no_routes false
cursor_by ctx parts (outcome.Took (message.Notification n) notes) = no_routes false
cursor_by ctx parts (outcome.Took message.Keepalive notes) = no_routes false
cursor_by ctx parts (outcome.Withdraw all notes) = cursor_in ctx false (loses_ip6 ctx parts (outcome.Withdraw all notes)) parts
cursor_by ctx parts (outcome.Reset n) = no_routes false
