use Rattle.bgp_words.proofs.Prelude.{codes, ap, ◌∙◌, IfOk-weaker, App, with_flag}
use Rattle.bgp_words.proofs.commands.with_families.Goals as goal

pub returns-clause-shape : goal.returns-clause-shape
returns-clause-shape c =
    IfOk-weaker c.with_flag-3.result _ _
    (λ r is. is ∙ ap (λ (a : App). with_flag a (codes "internal")) (c.in_ok-command-2.ensures.shape ∙ ap (λ (a : App). with_flag a (codes "ip6")) c.in_ok-command.ensures.shape))
    c.with_flag-3.ensures.shape
