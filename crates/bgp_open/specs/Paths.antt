-- Path identifiers: which speaker sends them, which reads them (ADD-PATH; RFC 7911, section 4).
use Rattle.std.specs.Prelude.{ℕ, Bool, false, true, ◌&&◌, ◌||◌, ◌==◌, List, [], ◌∷◌}
use Rattle.std.specs.Int.{w16, from_be_bytes}
use Rattle.std.specs.List.{list_any}
use Rattle.bgp_numbers.specs.declared.afi.TheConstants.{IPV4, IPV6}
use Rattle.bgp_numbers.specs.declared.capability.TheConstants.{ADD_PATH}
use Rattle.bgp_numbers.specs.declared.safi.TheConstants.{UNICAST}
use Rattle.bgp_open.specs.declared.capability.Capability.{Capability}
use Rattle.bgp_open.specs.declared.capability.Capability.TheVariants.{Multi, As4, Other}
use Rattle.bgp_open.specs.declared.message.Open.{Open}
use Rattle.bgp_open.specs.declared.paths.Role.{Role}
use Rattle.bgp_open.specs.declared.paths.Role.TheVariants.{Reads, Sends}
use Rattle.bgp_open.specs.Peer.{said_by}

-- Send/Receive: 1 receives, 2 sends, 3 does both; the standard has no others
abbrev pub is_role : ℕ → Bool
is_role code = (code == 1) || ((code == 2) || (code == 3))

abbrev pub does : Role → ℕ → Bool
does Reads code = (code == 1) || (code == 3)
does Sends code = (code == 2) || (code == 3)

-- A row of families, each of four octets: AFI 2, SAFI 1, Send/Receive 1. Where octets are left over, or a Send/Receive differs, the capability isn't
-- understood, and is ignored as a whole.
abbrev pub is_path_row : List ℕ → Bool
is_path_row [] = true
is_path_row (a ∷ b ∷ safi ∷ code ∷ later) = is_role code && is_path_row later
is_path_row _ = false

-- the speaker has this role for unicast routes of this family
abbrev pub has_role : Role → ℕ → List ℕ → Bool
has_role role family (a ∷ b ∷ safi ∷ code ∷ later) =
    ((from_be_bytes w16 (a ∷ b ∷ []) == family) && ((safi == UNICAST) && does role code)) || has_role role family later
has_role role family _ = false

abbrev pub offers_role : Role → ℕ → Capability → Bool
offers_role role family (Other code value) = (code == ADD_PATH) && (is_path_row value && has_role role family value)
offers_role role family (Multi of subsequent) = false
offers_role role family (As4 number) = false

-- one of an OPEN's capabilities gives the speaker this role
abbrev pub takes_role : Role → ℕ → Open → Bool
takes_role role family o = list_any (offers_role role family) o.caps

-- unicast routes of this family have path identifiers in this direction
abbrev pub has_paths : ℕ → Open → Open → Bool
has_paths family sender reader = takes_role Sends family sender && takes_role Reads family reader

-- Routes have path identifiers in this direction: those of IPv4, whose NLRI is read on each session, or those of IPv6 where both offer it
abbrev pub agree_on_paths : Open → Open → Bool
agree_on_paths sender reader =
    has_paths IPV4 sender reader
    || (((said_by sender).ip6 && (said_by reader).ip6) && has_paths IPV6 sender reader)
