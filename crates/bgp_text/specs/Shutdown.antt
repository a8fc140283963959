-- The text of a peer that shuts a session down (RFC 9003, section 2).
use Rattle.std.specs.Prelude.{ℕ, Bool, ◌==◌, ◌&&◌, ◌||◌, List, [], ◌∷◌, length, if◌then◌else◌}
use Rattle.bgp_text.specs.Below.{is_utf8, CEASE, ADMINISTRATIVE_SHUTDOWN}
use Rattle.bgp_text.specs.Below.{ADMINISTRATIVE_RESET}

-- the octets after their length in one octet
abbrev pub counted_text : List ℕ → List ℕ
counted_text [] = []
counted_text (len ∷ text) = if len == length text then text else []

-- a text, if it is UTF-8
abbrev pub where_utf8 : List ℕ → List ℕ
where_utf8 text = if is_utf8 text then text else []

-- a NOTIFICATION by which an operator ends a session
abbrev pub is_shutdown : ℕ → ℕ → Bool
is_shutdown code subcode = code == CEASE && (subcode == ADMINISTRATIVE_SHUTDOWN || subcode == ADMINISTRATIVE_RESET)

-- the text in the data of such a NOTIFICATION: none if its length is wrong, or it isn't UTF-8
abbrev pub shutdown_text : ℕ → ℕ → List ℕ → List ℕ
shutdown_text code subcode info = if is_shutdown code subcode then where_utf8 (counted_text info) else []
