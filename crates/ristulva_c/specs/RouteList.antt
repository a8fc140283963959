-- The routes of an UPDATE, announced and withdrawn by RFC 7606, in sequence by a cursor.
use Rattle.std.specs.Prelude.{◌≡◌, ◌==◌, ◌&&◌, ◌||◌, ◌++◌, not, ℕ, Bool, true, false, List, [], ◌∷◌, map, Option, Some, None, is_some}
use Rattle.std.specs.Int.{w16, from_be_bytes}
use Rattle.std.specs.List.{filter}
use Rattle.bgp_numbers.specs.declared.afi.TheConstants.{IPV4, IPV6}
use Rattle.bgp_numbers.specs.declared.attribute.TheConstants.{MP_REACH_NLRI, MP_UNREACH_NLRI}
use Rattle.bgp_numbers.specs.declared.safi.TheConstants.{UNICAST}
use Rattle.bgp_frame.specs.Step.{Step}
use Rattle.bgp_frame.specs.Prelude.{ShowsFront}
use Rattle.bgp_frame.specs.declared.step.Step.TheVariants as step
use Rattle.bgp_open.specs.declared.context.Context.{Context}
use Rattle.bgp_prefix.specs.Prelude.{PrefixValue}
use Rattle.bgp_attr.specs.Prelude.{PlacedTlv}
use Rattle.bgp_attr.specs.declared.mp.MpReach.{MpReach}
use Rattle.bgp_attr.specs.declared.mp.MpUnreach.{MpUnreach}
use Rattle.bgp_attr.specs.declared.mp.MpReach.TheVariants as reach
use Rattle.bgp_attr.specs.declared.mp.MpUnreach.TheVariants as unreach
use Rattle.bgp_update.specs.declared.routes.Routes.{Routes}
use Rattle.bgp_update.specs.declared.update.Update.{Update}
use Rattle.bgp_update.specs.Prelude.{Parts, marks_of, parts_of, update_of}
use Rattle.bgp_msg.specs.declared.message.Message.TheVariants as message
use Rattle.bgp_msg.specs.declared.outcome.Outcome.{Outcome}
use Rattle.bgp_msg.specs.Prelude.{out_of, of_fault}
use Rattle.bgp_msg.specs.declared.outcome.Outcome.TheVariants as outcome
use Rattle.ristulva_c.specs.Context.{is_set}
use Rattle.ristulva_c.specs.Facts.{attrs_in}
use Rattle.ristulva_c.specs.Opens.{flag_of}
use Rattle.ristulva_c.specs.Places.{first_of_type}
use Rattle.ristulva_c.specs.Prefixes.{IsCursor, prefixes_left, prefix_told}
use Rattle.ristulva_c.specs.declared.prefixes.Prefixes.{Prefixes}
use Rattle.ristulva_c.specs.declared.route_list.Route.{Route}
use Rattle.ristulva_c.specs.declared.route_list.RouteCursor.{RouteCursor}
use Rattle.ristulva_c.specs.declared.status.TheConstants.{INCOMPLETE, OK}

-- a route: whether it is announced, and else withdrawn; its family; its prefix
pub record RouteValue : Type 0 where
  pub announced : Bool
  pub afi : ℕ
  pub prefix : PrefixValue

abbrev pub routes_to : Bool → ℕ → List PrefixValue → List RouteValue
routes_to announced afi prefixes = map (λ p. record { announced = announced; afi = afi; prefix = p }) prefixes

-- ---- those of a message

abbrev pub reached_routes : Bool → Option MpReach → List RouteValue
reached_routes announced None = []
reached_routes announced (Some (reach.Ip4 hop routes)) = routes_to announced IPV4 routes
reached_routes announced (Some (reach.Ip6 hop link routes)) = routes_to announced IPV6 routes

abbrev pub unreached_routes : Option MpUnreach → List RouteValue
unreached_routes None = []
unreached_routes (Some (unreach.Ip4 routes)) = routes_to false IPV4 routes
unreached_routes (Some (unreach.Ip6 routes)) = routes_to false IPV6 routes

-- the routes of an UPDATE: those of Withdrawn Routes and of MP_UNREACH_NLRI, then those of MP_REACH_NLRI and of Network Layer Reachability
-- Information, which it announces, or withdraws too
abbrev pub routes_of : Bool → Update → List RouteValue
routes_of announces u =
    routes_to false IPV4 u.withdrawn ++ (unreached_routes u.attrs.mp_unreach ++ (reached_routes announces u.attrs.mp_reach ++ routes_to announces IPV4 u.nlri))

abbrev pub is_of : ℕ → RouteValue → Bool
is_of afi r = r.afi == afi

-- all are withdrawn, each family in its order; and all are in the order of an UPDATE's four fields, of which the two attributes have routes of one
-- family each
pub record AreWithdrawn (all : Routes) (routes : List RouteValue) : Type 0 where
  pub update : Update
  pub in_order : routes ≡ routes_of false update
  pub ip4 : filter (is_of IPV4) routes ≡ routes_to false IPV4 all.ip4
  pub ip6 : filter (is_of IPV6) routes ≡ routes_to false IPV6 all.ip6
  pub known : filter (λ r. not (is_of IPV4 r || is_of IPV6 r)) routes ≡ []

-- the routes of a message, by its outcome: an UPDATE that is accepted announces and withdraws; one that is treated as a withdrawal withdraws all of its
-- (RFC 7606, section 2); of other messages there are none
abbrev pub AreRoutes : Outcome → List RouteValue → Type 0
AreRoutes (outcome.Took (message.Update u) notes) routes = routes ≡ routes_of true u
AreRoutes (outcome.Took (message.Open o) notes) routes = routes ≡ []
AreRoutes (outcome.Took (message.Notification n) notes) routes = routes ≡ []
AreRoutes (outcome.Took message.Keepalive notes) routes = routes ≡ []
AreRoutes (outcome.Withdraw all notes) routes = AreWithdrawn all routes
AreRoutes (outcome.Reset n) routes = routes ≡ []

-- ---- IPv6 routes that are lost

-- a value begins with the family of IPv6 unicast
abbrev pub is_ip6 : List ℕ → Bool
is_ip6 (high ∷ low ∷ safi ∷ rest) = (from_be_bytes w16 (high ∷ low ∷ []) == IPV6) && (safi == UNICAST)
is_ip6 _ = false

abbrev pub has_ip6 : Option PlacedTlv → Bool
has_ip6 None = false
has_ip6 (Some q) = is_ip6 q.tlv.value

abbrev pub carries_ip6 : Option Parts → Bool
carries_ip6 None = false
carries_ip6 (Some p) = has_ip6 (first_of_type MP_REACH_NLRI p) || has_ip6 (first_of_type MP_UNREACH_NLRI p)

abbrev pub is_judged_update : Outcome → Bool
is_judged_update (outcome.Took (message.Update u) notes) = true
is_judged_update (outcome.Took (message.Open o) notes) = false
is_judged_update (outcome.Took (message.Notification n) notes) = false
is_judged_update (outcome.Took message.Keepalive notes) = false
is_judged_update (outcome.Withdraw all notes) = true
is_judged_update (outcome.Reset n) = false

-- an UPDATE that doesn't end the session has MP_REACH_NLRI or MP_UNREACH_NLRI of IPv6 unicast, which the session doesn't use: it is discarded, also where
-- it has no routes, as in an End-of-RIB (RFC 4724, section 2)
abbrev pub loses_ip6 : Context → Option Parts → Outcome → Bool
loses_ip6 ctx parts o = is_judged_update o && (not ctx.ip6 && carries_ip6 parts)

-- ---- by a cursor

-- the routes of one of its four fields
abbrev pub field_routes : Bool → List ℕ → Prefixes → List RouteValue
field_routes announced octets c = routes_to announced c.afi (prefixes_left octets c)

-- the remaining routes
abbrev pub routes_left : List ℕ → RouteCursor → List RouteValue
routes_left octets c =
    field_routes false octets c.withdrawn
    ++ (field_routes false octets c.unreached ++ (field_routes (is_set c.announces) octets c.reached ++ field_routes (is_set c.announces) octets c.nlri))

-- each of the four lies in the octets
pub record IsRouteCursor (octets : List ℕ) (c : RouteCursor) : Type 0 where
  pub withdrawn : IsCursor octets c.withdrawn
  pub unreached : IsCursor octets c.unreached
  pub reached : IsCursor octets c.reached
  pub nlri : IsCursor octets c.nlri

-- a cursor moved to these offsets: the ends of its fields, their families, and its flags are unchanged
abbrev pub moved : RouteCursor → ℕ → ℕ → ℕ → ℕ → RouteCursor
moved c withdrawn unreached reached nlri = record c {
  withdrawn = record c.withdrawn { at = withdrawn };
  unreached = record c.unreached { at = unreached };
  reached = record c.reached { at = reached };
  nlri = record c.nlri { at = nlri };
}

-- the reported route
abbrev pub route_told : Route → RouteValue
route_told out = record { announced = is_set out.announced; afi = out.prefix.afi; prefix = prefix_told out.prefix }

-- a cursor is at the first of a message's routes, by its outcome, and says whether it announces those that an UPDATE may announce, and whether IPv6
-- routes are lost
pub record Begins (octets : List ℕ) (o : Outcome) (loses : Bool) (c : RouteCursor) : Type 0 where
  pub lies : IsRouteCursor octets c
  pub routes : AreRoutes o (routes_left octets c)
  pub announces : c.announces ≡ flag_of (is_some (attrs_in o))
  pub loses_ip6 : c.loses_ip6 ≡ flag_of loses

-- the routes of an UPDATE that is treated as a withdrawal are in the order of its fields, of what is kept: those of Withdrawn Routes, of
-- MP_UNREACH_NLRI, of MP_REACH_NLRI, and of Network Layer Reachability Information
abbrev pub AreOfFields : Context → Option Parts → List RouteValue → Type 0
AreOfFields ctx None routes = Unit {0}
AreOfFields ctx (Some p) routes = routes ≡ routes_of false (update_of p (marks_of ctx p))

abbrev pub AreInOrder : Context → Option Parts → Outcome → List RouteValue → Type 0
AreInOrder ctx parts (outcome.Took m notes) routes = Unit {0}
AreInOrder ctx parts (outcome.Withdraw all notes) routes = AreOfFields ctx parts routes
AreInOrder ctx parts (outcome.Reset n) routes = Unit {0}

-- by what the octets begin with: less than a message, and nothing is changed; a message; or a header with a fault, which has no routes
abbrev pub BeginsBy : Context → List ℕ → Step → ℕ → RouteCursor → RouteCursor → Type 0
BeginsBy ctx octets step.More status before behind = (status ≡ INCOMPLETE) × (behind ≡ before)
BeginsBy ctx octets (step.Frame f) status before behind =
    (status ≡ OK) × Begins octets (out_of ctx (record { kind = f.kind; body = f.body.now })) (loses_ip6 ctx (parts_of f.body.now) (out_of ctx (record { kind = f.kind; body = f.body.now }))) behind
    × AreInOrder ctx (parts_of f.body.now) (out_of ctx (record { kind = f.kind; body = f.body.now })) (routes_left octets behind)
BeginsBy ctx octets (step.Fault fault) status before behind = (status ≡ OK) × Begins octets (of_fault fault) false behind

pub record AreBegun (ctx : Context) (octets : List ℕ) (status : ℕ) (before behind : RouteCursor) : Type 0 where
  pub found : Step
  pub shows : ShowsFront octets found
  pub begins : BeginsBy ctx octets found status before behind
