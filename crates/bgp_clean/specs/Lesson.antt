-- What a receiver learns from a message by its outcome in a context (RFC 7606, section 2).
use Rattle.std.specs.Prelude.{ℕ, Bool, List, [], ◌∷◌, ◌++◌, Option, None, Some, if◌then◌else◌}
use Rattle.std.specs.Option.{option_or}
use Rattle.bgp_frame.specs.declared.notification.Notification.{Notification}
use Rattle.bgp_frame.specs.Frame as frame
use Rattle.bgp_open.specs.declared.context.Context.{Context}
use Rattle.bgp_open.specs.declared.capability.Capability.{Capability}
use Rattle.bgp_open.specs.declared.message.Open.{Open}
use Rattle.bgp_open.specs.Prelude.{peer_as_of}
use Rattle.bgp_prefix.specs.Prelude.{PrefixValue}
use Rattle.bgp_attr.specs.declared.mp.MpReach.{MpReach}
use Rattle.bgp_attr.specs.declared.mp.MpReach.TheVariants as reach
use Rattle.bgp_update.specs.declared.attrs.Attrs.{Attrs}
use Rattle.bgp_update.specs.declared.routes.Routes.{Routes}
use Rattle.bgp_update.specs.declared.update.Update.{Update}
use Rattle.bgp_msg.specs.declared.message.Message.{Message}
use Rattle.bgp_msg.specs.declared.outcome.Outcome.{Outcome}
use Rattle.bgp_msg.specs.Prelude.{out_of}
use Rattle.bgp_terms.specs.declared.refreshes.Refreshes.{Refreshes}
use Rattle.bgp_terms.specs.declared.refreshes.Refreshes.TheVariants as refreshes
use Rattle.bgp_clean.specs.Opens.{understood_with}
use Rattle.bgp_clean.specs.Updates.{cleaned_update, has_any, gone_routes, nlri_routes, nlri_part, reached_routes, reached_part}
use Rattle.bgp_clean.specs.Clean.{ended_family}

-- of an OPEN: the AS number, the Hold Time, the identifier, the capabilities that are understood
pub record Peer : Type 0 where
  pub number : ℕ
  pub hold : ℕ
  pub id : List ℕ
  pub caps : List Capability

-- announced routes of a family: the attributes that are kept and not left out, but for those that carry routes and next hops; the next hop, and a
-- link-local one where there is one; and the routes. Those of IPv4 are the same in NLRI by NEXT_HOP and in MP_REACH_NLRI
pub record Announced : Type 0 where
  pub attrs : Attrs
  pub next_hop : Option (List ℕ)
  pub link_local : Option (List ℕ)
  pub routes : Routes

-- each list in its order: IPv4 routes that are withdrawn are those of Withdrawn Routes, then of MP_UNREACH_NLRI; of a message that is treated as a
-- withdrawal, those of the verdict
pub record Lesson : Type 0 where
  pub peer : Option Peer
  pub gone_ip4 : List PrefixValue
  pub gone_ip6 : List PrefixValue
  pub announced : List Announced
  pub ended : Option ℕ
  pub said : Option Notification

abbrev pub no_lesson : Lesson
no_lesson = record { peer = None; gone_ip4 = []; gone_ip6 = []; announced = []; ended = None; said = None }

abbrev pub peer_of : Refreshes → Open → Peer
peer_of offers o = record { number = peer_as_of o; hold = o.hold; id = o.id; caps = understood_with offers o.caps }

-- ---- of routes that are announced

abbrev pub bare_attrs : Attrs → Attrs
bare_attrs a = record a { next_hop = None; mp_reach = None; mp_unreach = None }

abbrev pub hop_of : Option MpReach → Option (List ℕ)
hop_of None = None
hop_of (Some (reach.Ip4 hop routes)) = Some hop
hop_of (Some (reach.Ip6 hop link routes)) = Some hop

abbrev pub link_of : Option MpReach → Option (List ℕ)
link_of (Some (reach.Ip6 hop link routes)) = link
link_of _ = None

abbrev pub announced_nlri : Update → Announced
announced_nlri u = record { attrs = bare_attrs u.attrs; next_hop = u.attrs.next_hop; link_local = None; routes = nlri_routes u }

abbrev pub announced_reached : Update → Announced
announced_reached u = record { attrs = bare_attrs u.attrs; next_hop = hop_of u.attrs.mp_reach; link_local = link_of u.attrs.mp_reach; routes = reached_routes u }

abbrev pub gone_lesson : Routes → Lesson
gone_lesson r = record no_lesson { gone_ip4 = r.ip4; gone_ip6 = r.ip6 }

abbrev pub announced_lesson : Announced → Lesson
announced_lesson a = record no_lesson { announced = a ∷ [] }

-- routes that are announced, where there are some: those that are refused are withdrawn
abbrev pub taught_by : Bool → Bool → Announced → Lesson
taught_by there refused a = if there then (if refused then gone_lesson a.routes else announced_lesson a) else no_lesson

-- ---- of one message and of others after it

abbrev pub both : Lesson → Lesson → Lesson
both a b = record {
  peer = option_or a.peer b.peer;
  gone_ip4 = a.gone_ip4 ++ b.gone_ip4;
  gone_ip6 = a.gone_ip6 ++ b.gone_ip6;
  announced = a.announced ++ b.announced;
  ended = option_or a.ended b.ended;
  said = option_or a.said b.said;
}

abbrev pub all_of : List Lesson → Lesson
all_of [] = no_lesson
all_of (l ∷ ls) = both l (all_of ls)

-- ---- of a message

-- what an UPDATE says, with the attributes that aren't left out
abbrev pub lesson_of : (Update → Bool) → Update → Lesson
lesson_of refuses u =
    both (gone_lesson (gone_routes u))
    (both (taught_by (has_any (nlri_routes u)) (refuses (nlri_part u)) (announced_nlri u))
    (taught_by (has_any (reached_routes u)) (refuses (reached_part u)) (announced_reached u)))

-- of a message that is accepted, which is an End-of-RIB of this family or of none, by a receiver that understands this ROUTE-REFRESH
abbrev pub lesson_by : Refreshes → (ℕ → Bool) → (Update → Bool) → Option ℕ → Message → Lesson
lesson_by offers drops refuses family (Message.Open o) = record no_lesson { peer = Some (peer_of offers o) }
lesson_by offers drops refuses family (Message.Update u) = record (lesson_of refuses (cleaned_update drops u)) { ended = family }
lesson_by offers drops refuses family (Message.Notification n) = record no_lesson { said = Some n }
lesson_by offers drops refuses family Message.Keepalive = no_lesson

abbrev pub lesson_in : Refreshes → (ℕ → Bool) → (Update → Bool) → Option ℕ → Outcome → Lesson
lesson_in offers drops refuses family (Outcome.Took said notes) = lesson_by offers drops refuses family said
lesson_in offers drops refuses family (Outcome.Withdraw routes notes) = gone_lesson routes
lesson_in offers drops refuses family (Outcome.Reset n) = no_lesson

-- what a receiver learns from a message, where unrecognised attributes of these types are ignored, and routes that are refused are withdrawn
abbrev pub lesson_with : Refreshes → Context → (ℕ → Bool) → (Update → Bool) → frame.Message → Lesson
lesson_with offers ctx drops refuses m = lesson_in offers drops refuses (ended_family ctx m) (out_of ctx m)

-- by a receiver that understands no ROUTE-REFRESH
abbrev pub lesson : Context → (ℕ → Bool) → (Update → Bool) → frame.Message → Lesson
lesson ctx drops refuses m = lesson_with refreshes.None ctx drops refuses m
