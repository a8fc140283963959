use Rattle.bgp_guard.proofs.Prelude.{ℕ, List, take, ap, ◌∙◌}
use Rattle.std.proofs.lemmas.List.{take_min}
use Rattle.bgp_frame.specs.Prelude.{notification_with}
use Rattle.bgp_guard.proofs.handing.length_answer.Goals as goal

pub returns : goal.returns
returns c =
    let whole = c.args.whole.now in
    λ body framed. ap (λ (n : ℕ). notification_with 7 1 (take n whole)) c.min.ensures ∙ ap (λ (front : List ℕ). notification_with 7 1 front) (take_min 4075 whole)
    ∙ ap (λ (octets : List ℕ). notification_with 7 1 (take 4075 octets)) framed.octets
