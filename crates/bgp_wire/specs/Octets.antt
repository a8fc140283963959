-- Octets. A number of k octets is `to_be_bytes` at that width, highest first (RFC 4271, section 4).
use Rattle.std.specs.Prelude.{ℕ, ◌<◌, List, slice_index}

-- each is below 256
abbrev pub AreOctets : List ℕ → Type 0
AreOctets b = (i : ℕ) → slice_index b i < 256
