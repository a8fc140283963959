-- Types of messages.
use Rattle.std.specs.Prelude.{ℕ, List, [], ◌∷◌, codes}
use Rattle.bgp_names.specs.Names.{named}

-- the name of a type of message, of the registry "BGP Message Types"
unfoldable pub message_name : ℕ → List ℕ
message_name kind = named (
    (1, codes "OPEN") ∷ (
    (2, codes "UPDATE") ∷ (
    (3, codes "NOTIFICATION") ∷ (
    (4, codes "KEEPALIVE") ∷ (
    (5, codes "ROUTE-REFRESH") ∷ (
    [])))))) kind
