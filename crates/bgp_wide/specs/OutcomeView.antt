-- The value that a borrowed outcome represents.
use mathlib.Core.Logic.{inl, inr}
use Rattle.std.specs.Prelude.{Ok, Err}
use Rattle.bgp_msg.specs.Prelude.{outcome_value}
use Rattle.bgp_refresh.specs.Prelude.{refresh_notification, refresh_value}
use Rattle.bgp_wide.specs.declared.outcome_view.WideOutcomeView.{WideOutcomeView}
use Rattle.bgp_wide.specs.declared.outcome_view.WideOutcomeView.TheVariants as view
use Rattle.bgp_wide.specs.Outcome.{WideOutcome}

abbrev pub wide_value : WideOutcomeView → WideOutcome
wide_value (view.Base o) = inl (outcome_value o)
wide_value (view.Refresh r) = inr (Ok (refresh_value r))
wide_value (view.Refused fault body) = inr (Err (refresh_notification fault body.now))
