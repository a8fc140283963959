-- The parts of an UPDATE's body (RFC 4271, section 4.3): Withdrawn Routes after their length, path attributes after theirs,
-- each length in two octets, and Network Layer Reachability Information up to the end.
use Rattle.std.specs.Prelude.{◌≡◌, ◌<◌, ◌^◌, ◌+◌, ℕ, Bool, List, [], ◌∷◌, ◌++◌, length, Option, None, Some, nat_lt}
use Rattle.std.specs.Int.{w16, to_be_bytes, from_be_bytes}
use Rattle.bgp_wire.specs.Prelude.{◌>>=◌, first_octets}

pub record Parts : Type 0 where
  pub withdrawn : List ℕ
  pub attributes : List ℕ
  pub nlri : List ℕ

-- the body is these parts
pub record IsBody (p : Parts) (body : List ℕ) : Type 0 where
  pub octets : body ≡ to_be_bytes w16 (length p.withdrawn) ++ (p.withdrawn ++ (to_be_bytes w16 (length p.attributes) ++ (p.attributes ++ p.nlri)))
  pub withdrawn_fits : length p.withdrawn < 2 ^ 16
  pub attributes_fit : length p.attributes < 2 ^ 16

-- a length in two octets, that number of octets, and what follows them
abbrev pub behind_two : List ℕ → Option (List ℕ × List ℕ)
behind_two (high ∷ low ∷ b) = first_octets (from_be_bytes w16 (high ∷ low ∷ [])) b
behind_two _ = None

-- the parts of a body, where the lengths leave room for each other
unfoldable pub parts_of : List ℕ → Option Parts
parts_of body = do
  withdrawn ← behind_two body
  attributes ← behind_two withdrawn.1
  Some (record { withdrawn = withdrawn.0; attributes = attributes.0; nlri = attributes.1 })

-- the offset of the path attributes in the body
abbrev pub attributes_at : Parts → ℕ
attributes_at p = 4 + length p.withdrawn

-- the NLRI field isn't empty
abbrev pub has_nlri : Parts → Bool
has_nlri p = nat_lt 0 (length p.nlri)
