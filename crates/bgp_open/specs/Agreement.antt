-- What two speakers agree on, as one of them finds it from its settings and the peer's OPEN, and the NOTIFICATION to a peer that isn't
-- accepted (RFC 4271, sections 4.2 and 6.2).
use Rattle.std.specs.Prelude.{ℕ, Bool, false, not, ◌&&◌, ◌==◌, List, [], ◌∷◌, min, is_some, Result, Ok, Err, if◌then◌else◌}
use Rattle.std.specs.List.{list_any}
use Rattle.bgp_numbers.specs.declared.error.TheConstants.{BAD_PEER_AS, BAD_IDENTIFIER}
use Rattle.bgp_frame.specs.declared.notification.Notification.{Notification}
use Rattle.bgp_open.specs.declared.agreement.PeerFault.{PeerFault}
use Rattle.bgp_open.specs.declared.agreement.PeerFault.TheVariants.{PeerAs, Identifier}
use Rattle.bgp_open.specs.declared.context.Context.{Context}
use Rattle.bgp_open.specs.declared.message.Open.{Open}
use Rattle.bgp_open.specs.OpenFault.{open_error}
use Rattle.bgp_open.specs.Config.{Settings}
use Rattle.bgp_open.specs.Peer.{Said, first_as4, is_unicast, number_of, said_by}

-- the AS number of the speaker that sent the OPEN
abbrev pub peer_as_of : Open → ℕ
peer_as_of o = number_of (said_by o)

abbrev pub offers_as4 : Open → Bool
offers_as4 o = is_some (first_as4 o.caps)

abbrev pub offers_unicast : ℕ → Open → Bool
offers_unicast family o = list_any (is_unicast family) o.caps

-- what both offer, and the smaller Hold Time
abbrev pub context_with : Settings → Said → Context
context_with s p = record {
  internal = s.local_as == s.peer_as;
  as4 = s.as4 && is_some p.as4;
  ip4 = s.ip4 && p.ip4;
  ip6 = s.ip6 && p.ip6;
  hold = min s.hold p.hold;
}

abbrev pub context_of : Settings → Open → Context
context_of s o = context_with s (said_by o)

abbrev pub same_id : List ℕ → List ℕ → Bool
same_id (a ∷ b ∷ c ∷ d ∷ []) (e ∷ f ∷ g ∷ h ∷ []) = (a == e) && ((b == f) && ((c == g) && (d == h)))
same_id _ _ = false

-- the peer has to be the one that is configured, and inside one AS its identifier has to differ (RFC 4271, section 6.2; RFC 6286, section 2.2)
abbrev pub agreement_with : Settings → Said → Result Context PeerFault
agreement_with s p =
    if not (number_of p == s.peer_as) then Err PeerAs else (
    if (s.local_as == s.peer_as) && same_id p.id s.id then Err Identifier else
    Ok (context_with s p))

abbrev pub agreement : Settings → Open → Result Context PeerFault
agreement s o = agreement_with s (said_by o)

-- the NOTIFICATION to a peer that isn't accepted
abbrev pub peer_notification : PeerFault → Notification
peer_notification PeerAs = open_error BAD_PEER_AS []
peer_notification Identifier = open_error BAD_IDENTIFIER []
