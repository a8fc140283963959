use Rattle.std.proofs.Common.{ℕ, ◌≡◌, ◌<◌, length, get_or}
use Rattle.bgp_prefix.specs.Prelude.{mask_of}
use Rattle.bgp_prefix.proofs.mask.masks.Given as goal

-- the masks so far are set
abbrev pub invariant-loop-i : goal.invariant-loop-i
invariant-loop-i g l = (length l.masks ≡ g.row.W) × ((k : ℕ) → k < l.i → get_or l.masks k 0 ≡ mask_of l.len k)
