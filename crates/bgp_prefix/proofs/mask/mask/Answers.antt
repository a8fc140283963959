use Rattle.std.proofs.Common.{ℕ, ◌+◌, ◌-◌, ◌/◌, ◌%◌, [], get_or, ap, ap₂, ◌∙◌, arith}
use Rattle.bgp_prefix.proofs.MaskLemmas.{table, in_table, in_row-of, mask_past}
use Rattle.bgp_prefix.proofs.mask.mask.Goals as goal

pub returns-then-i-lt32 : goal.returns-then-i-lt32
returns-then-i-lt32 c =
    let l = c.args.len in
    let i = c.args.i in
    ap₂ (λ (r k : ℕ). get_or (get_or table r []) k 0) c.from.ensures (ap (λ (n : ℕ). (32 - n) + i) c.from-then-i-lt32.ensures)
    ∙ in_table (l % 8) ((32 - l / 8) + i) [] (omega arith) (omega (arith, c.if-i-lt32.true))
    ∙ in_row-of l i c.ranges.len.fits c.if-i-lt32.true

pub returns-else-i-lt32 : goal.returns-else-i-lt32
returns-else-i-lt32 c = mask_past c.args.len c.args.i c.ranges.len.fits c.if-i-lt32.false
