use Rattle.bgp_words.proofs.Prelude.{codes, ap, ◌∙◌, IfOk-weaker, App, with_flag, with_option}
use Rattle.bgp_words.proofs.commands.with_dropping.Goals as goal

pub returns-clause-shape : goal.returns-clause-shape
returns-clause-shape c =
    IfOk-weaker c.with_option-2.result _ _
    (λ r is. is ∙ ap (λ (a : App). with_option a (codes "pass")) (c.in_ok-command-2.ensures.shape ∙ ap (λ (a : App). with_flag a (codes "drop-unknown")) c.in_ok-command.ensures.shape))
    c.with_option-2.ensures.shape
