use Rattle.bgp_engine.proofs.Prelude.{ℕ, map, ap, ◌∙◌, slice_index_or, arith, range_with_len, value_or_none}
use Rattle.bgp_engine.proofs.DigitTable.{in_table}
use Rattle.bgp_engine.proofs.hex_text.value.Goals as goal

pub returns : goal.returns
returns c = ap (λ (i : ℕ). slice_index_or (map value_or_none (range_with_len 0 256)) i 0) c.from.ensures ∙ in_table c.args.character (omega arith)
