use Rattle.std.specs.Prelude.{refl}
use Rattle.bgp_frame.proofs.Hearings.{can_be_heard, can_pull, pull_is_way, rests_empty}
use Rattle.bgp_wide.specs.Prelude.{decoder, fresh}
use Rattle.bgp_wide.specs.Pieces.{by_pull}
use Rattle.bgp_wide.proofs.Pulls.{is_hearer}
use Rattle.bgp_wide.proofs.laws.any_pieces_can_be_pulled.Goals as goal

pub returns : goal.returns
returns c = λ terms pieces octets.
    can_be_heard (decoder terms) (is_hearer terms) (by_pull terms) (pull_is_way (decoder terms) (is_hearer terms)) (can_pull (decoder terms) (is_hearer terms))
    (fresh terms) pieces (rests_empty (decoder terms) (is_hearer terms) (fresh terms) refl) octets
