use Rattle.bgp_text.proofs.Prelude.{◌∷◌, []}
use Rattle.bgp_text.proofs.Decimals.{in_table}
use Rattle.bgp_text.proofs.decimal.three.Goals as goal

pub returns : goal.returns
returns c = let at = in_table c.args.number c.requires in λ i. at.0 i ∷ at.1 i ∷ at.2 i ∷ []
