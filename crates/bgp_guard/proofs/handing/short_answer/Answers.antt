use Rattle.bgp_guard.proofs.Prelude.{ℕ, List, take, drop, ap}
use Rattle.bgp_frame.specs.Prelude.{notification_with}
use Rattle.bgp_guard.proofs.handing.short_answer.Goals as goal

pub returns : goal.returns
returns c = λ body framed. ap (λ (whole : List ℕ). notification_with 1 2 (take 2 (drop 16 whole))) framed.octets
