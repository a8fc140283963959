use Rattle.bgp_words.proofs.Prelude.{Bool, ◌||◌, ap, ◌∙◌, IfOk-weaker, or-false, out-Command}
use Rattle.bgp_words.proofs.commands.with_option.Goals as goal

pub returns-clause-local : goal.returns-clause-local
returns-clause-local c =
    IfOk-weaker c.arg.result _ _ (λ r adds. adds.globals ∙ ap (λ (b : Bool). (out-Command c.args.command).has_globals || b) c.option.ensures.local ∙ or-false (out-Command c.args.command).has_globals) c.arg.ensures
