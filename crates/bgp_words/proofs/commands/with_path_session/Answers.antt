use Rattle.bgp_words.proofs.Prelude.{ap, ◌∙◌, IfOk-weaker, App, with_opens, with_paths, with_refreshes}
use Rattle.bgp_words.proofs.commands.with_path_session.Goals as goal

pub returns-clause-shape : goal.returns-clause-shape
returns-clause-shape c =
    IfOk-weaker c.with_opens.result _ _
    (λ r is. is ∙ ap (λ (a : App). with_opens a) (c.in_ok-command-2.ensures.shape ∙ ap (λ (a : App). with_paths a) (c.in_ok-command.ensures.shape ∙ ap (λ (a : App). with_refreshes a) c.in_ok-with_families.ensures.shape)))
    c.with_opens.ensures.shape
