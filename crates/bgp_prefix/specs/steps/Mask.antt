-- The masks of an address's octets.
use Rattle.std.specs.Prelude.{ℕ, ◌-◌, ◌*◌, ◌^◌}

-- octet i of the mask that keeps the first l bits
unfoldable pub mask_of : ℕ → ℕ → ℕ
mask_of l i = 256 - 2 ^ (8 - (l - 8 * i))
