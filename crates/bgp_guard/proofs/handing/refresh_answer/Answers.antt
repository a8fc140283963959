use Rattle.bgp_guard.proofs.Prelude.{ap, sym, ◌∙◌}
use Rattle.bgp_refresh.specs.declared.fault.RefreshFault.{RefreshFault}
use Rattle.bgp_refresh.specs.Prelude.{refresh_notification}
use Rattle.bgp_guard.proofs.handing.refresh_answer.Goals as goal

pub returns-in-Length : goal.returns-in-Length
returns-in-Length c = λ body framed. c.length_answer.ensures body framed ∙ ap (λ (f : RefreshFault). refresh_notification f body) (sym c.in-Length.is)
