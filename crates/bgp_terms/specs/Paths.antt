-- Path identifiers: the roles that a capability gives its speaker (ADD-PATH; RFC 7911, section 4). Which values are understood is defined in bgp_open.
use Rattle.std.specs.Prelude.{ℕ, Bool, false, ◌&&◌, ◌||◌, ◌==◌, List, [], ◌∷◌}
use Rattle.std.specs.Int.{w16, from_be_bytes}
use Rattle.bgp_numbers.specs.declared.capability.TheConstants.{ADD_PATH}
use Rattle.bgp_numbers.specs.declared.safi.TheConstants.{UNICAST}
use Rattle.bgp_open.specs.declared.capability.Capability.{Capability}
use Rattle.bgp_open.specs.declared.capability.Capability.TheVariants.{Multi, As4, Other}
use Rattle.bgp_open.specs.Paths.{is_path_row}
use Rattle.bgp_terms.specs.declared.paths.Role.{Role}
use Rattle.bgp_terms.specs.declared.paths.Role.TheVariants.{Reads, Sends}

-- Send/Receive: 1 receives, 2 sends, 3 does both
abbrev pub does : Role → ℕ → Bool
does Reads code = (code == 1) || (code == 3)
does Sends code = (code == 2) || (code == 3)

-- the speaker has this role for unicast routes of this family: AFI 2, SAFI 1, Send/Receive 1
abbrev pub has_role : Role → ℕ → List ℕ → Bool
has_role role family (a ∷ b ∷ safi ∷ code ∷ later) =
    ((from_be_bytes w16 (a ∷ b ∷ []) == family) && ((safi == UNICAST) && does role code)) || has_role role family later
has_role role family _ = false

abbrev pub offers_role : Role → ℕ → Capability → Bool
offers_role role family (Other code value) = (code == ADD_PATH) && (is_path_row value && has_role role family value)
offers_role role family (Multi of subsequent) = false
offers_role role family (As4 number) = false
