-- NOTIFICATIONs: codes and subcodes.
use Rattle.std.specs.Prelude.{ℕ, List, [], ◌∷◌, codes, ◌==◌, if◌then◌else◌}
use Rattle.bgp_names.specs.Names.{named}

-- the name of a code of a NOTIFICATION, of the registry "BGP Error (Notification) Codes"
unfoldable pub error_name : ℕ → List ℕ
error_name code = named (
    (1, codes "Message Header Error") ∷ (
    (2, codes "OPEN Message Error") ∷ (
    (3, codes "UPDATE Message Error") ∷ (
    (4, codes "Hold Timer Expired") ∷ (
    (5, codes "Finite State Machine Error") ∷ (
    (6, codes "Cease") ∷ (
    (7, codes "ROUTE-REFRESH Message Error") ∷ (
    (8, codes "Send Hold Timer Expired") ∷ (
    []))))))))) code

-- the name of a subcode of Message Header Error
unfoldable pub header_error_name : ℕ → List ℕ
header_error_name subcode = named (
    (1, codes "Connection Not Synchronized") ∷ (
    (2, codes "Bad Message Length") ∷ (
    (3, codes "Bad Message Type") ∷ (
    [])))) subcode

-- the name of a subcode of OPEN Message Error
unfoldable pub open_error_name : ℕ → List ℕ
open_error_name subcode = named (
    (1, codes "Unsupported Version Number") ∷ (
    (2, codes "Bad Peer AS") ∷ (
    (3, codes "Bad BGP Identifier") ∷ (
    (4, codes "Unsupported Optional Parameter") ∷ (
    (6, codes "Unacceptable Hold Time") ∷ (
    (7, codes "Unsupported Capability") ∷ (
    (11, codes "Role Mismatch") ∷ (
    [])))))))) subcode

-- the name of a subcode of UPDATE Message Error
unfoldable pub update_error_name : ℕ → List ℕ
update_error_name subcode = named (
    (1, codes "Malformed Attribute List") ∷ (
    (2, codes "Unrecognized Well-known Attribute") ∷ (
    (3, codes "Missing Well-known Attribute") ∷ (
    (4, codes "Attribute Flags Error") ∷ (
    (5, codes "Attribute Length Error") ∷ (
    (6, codes "Invalid ORIGIN Attribute") ∷ (
    (8, codes "Invalid NEXT_HOP Attribute") ∷ (
    (9, codes "Optional Attribute Error") ∷ (
    (10, codes "Invalid Network Field") ∷ (
    (11, codes "Malformed AS_PATH") ∷ (
    []))))))))))) subcode

-- the name of a subcode of Finite State Machine Error
unfoldable pub state_error_name : ℕ → List ℕ
state_error_name subcode = named (
    (1, codes "Receive Unexpected Message in OpenSent State") ∷ (
    (2, codes "Receive Unexpected Message in OpenConfirm State") ∷ (
    (3, codes "Receive Unexpected Message in Established State") ∷ (
    [])))) subcode

-- the name of a subcode of Cease
unfoldable pub cease_error_name : ℕ → List ℕ
cease_error_name subcode = named (
    (1, codes "Maximum Number of Prefixes Reached") ∷ (
    (2, codes "Administrative Shutdown") ∷ (
    (3, codes "Peer De-configured") ∷ (
    (4, codes "Administrative Reset") ∷ (
    (5, codes "Connection Rejected") ∷ (
    (6, codes "Other Configuration Change") ∷ (
    (7, codes "Connection Collision Resolution") ∷ (
    (8, codes "Out of Resources") ∷ (
    (9, codes "Hard Reset") ∷ (
    (10, codes "BFD Down") ∷ (
    []))))))))))) subcode

-- the name of a subcode of ROUTE-REFRESH Message Error
unfoldable pub refresh_error_name : ℕ → List ℕ
refresh_error_name subcode = named (
    (1, codes "Invalid Message Length") ∷ (
    [])) subcode

-- the name of a subcode, by the code
unfoldable pub subcode_name : ℕ → ℕ → List ℕ
subcode_name code subcode =
    if code == 1 then header_error_name subcode else (
    if code == 2 then open_error_name subcode else (
    if code == 3 then update_error_name subcode else (
    if code == 5 then state_error_name subcode else (
    if code == 6 then cease_error_name subcode else (
    if code == 7 then refresh_error_name subcode else (
    []))))))
