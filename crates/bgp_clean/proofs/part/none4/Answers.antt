use Rattle.bgp_wire.proofs.Std.{◌≡◌, ℕ, List, [], Option, refl, ◌∙◌}
use Rattle.bgp_wire.specs.Prelude.{pieces}
use Rattle.bgp_prefix.specs.Prelude.{PrefixValue, one_prefix}
use Rattle.bgp_clean.proofs.part.none4.Goals as goal

no_piece : (one : List ℕ → Option (PrefixValue × List ℕ)) → (pieces one []).0 ≡ []
unfolding pieces
no_piece one = refl

pub returns : goal.returns
returns c = c.new.ensures ∙ no_piece (one_prefix 4)
