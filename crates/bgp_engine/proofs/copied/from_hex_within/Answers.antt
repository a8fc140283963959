use Rattle.bgp_engine.proofs.Prelude.{true}
use Rattle.bgp_engine.proofs.Reading.{answers_as}
use Rattle.bgp_engine.proofs.copied.from_hex_within.Goals as goal

pub returns : goal.returns
returns g c = answers_as _ _ true _ c.run.result (λ s r q. q.1) c.run.ensures
