use Rattle.std.proofs.Common.{ℕ, List, sym, ap, ◌∙◌}
use Rattle.bgp_frame.specs.Prelude.{notification_with}
use Rattle.bgp_refresh.specs.declared.fault.RefreshFault.{RefreshFault}
use Rattle.bgp_refresh.specs.Fault.{refresh_notification}
use Rattle.bgp_refresh.proofs.Fronts.{cut_message}
use Rattle.bgp_refresh.proofs.fault.RefreshFault.notification.Goals as goal

pub returns-in-Length : goal.returns-in-Length
returns-in-Length c =
    ap (λ (items : List ℕ). notification_with 7 1 items) (c.front_of.ensures ∙ cut_message c.args.body.now)
    ∙ ap (λ (fault : RefreshFault). refresh_notification fault c.args.body.now) (sym c.in-Length.is)
