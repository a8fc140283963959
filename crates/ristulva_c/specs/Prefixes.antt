-- Prefixes in sequence, by a cursor.
use Rattle.std.specs.Prelude.{◌≡◌, ◌==◌, ◌≤◌, ◌-◌, ◌⊎◌, ℕ, List, length, take, drop, replicate, if◌then◌else◌}
use Rattle.bgp_numbers.specs.declared.afi.TheConstants.{IPV4, IPV6}
use Rattle.bgp_prefix.specs.Prelude.{PrefixValue, run_of}
use Rattle.ristulva_c.specs.declared.prefixes.Prefixes.{Prefixes}
use Rattle.ristulva_c.specs.declared.prefixes.RoutePrefix.{RoutePrefix}

-- the length of an address
abbrev pub width_of : ℕ → ℕ
width_of afi = if afi == IPV4 then 4 else 16

-- the octets from one offset to another
abbrev pub between : List ℕ → ℕ → ℕ → List ℕ
between octets at end = take (end - at) (drop at octets)

-- the cursor's offsets lie in the octets
pub record IsWithin (octets : List ℕ) (cursor : Prefixes) : Type 0 where
  pub in_order : cursor.at ≤ cursor.end
  pub within : cursor.end ≤ length octets

-- and its family is one that is read
pub record IsCursor (octets : List ℕ) (cursor : Prefixes) : Type 0 where
  pub within : IsWithin octets cursor
  pub known : (cursor.afi ≡ IPV4) ⊎ (cursor.afi ≡ IPV6)

-- the remaining prefixes
abbrev pub prefixes_left : List ℕ → Prefixes → List PrefixValue
prefixes_left octets cursor = (run_of (width_of cursor.afi) (between octets cursor.at cursor.end)).0

-- after the octets of an address there are zeros
abbrev pub IsPadded : RoutePrefix → Type 0
IsPadded out = drop (width_of out.afi) out.addr ≡ replicate (16 - width_of out.afi) 0

-- the reported prefix
abbrev pub prefix_told : RoutePrefix → PrefixValue
prefix_told out = record { len = out.len; addr = take (width_of out.afi) out.addr }
