-- Steps of the page of `clean`.
use Rattle.bgp_engine.specs.Below.{ℕ, Agreed, Bool, Kind, List, Refreshes, Result, has_octet, Context, CleanFault}
use Rattle.std.specs.Prelude.{Option, None, Some}
use Rattle.bgp_msg.specs.declared.message.Message.{Message}
use Rattle.bgp_clean.specs.declared.limits.Limits.{Limits}
use Rattle.bgp_engine.specs.declared.cleaning.CleanPage.{CleanPage}
use Rattle.bgp_engine.specs.Clean.{clean_rules, first_line}
use Rattle.bgp_engine.specs.Rules.{Rules}
use Rattle.bgp_engine.specs.steps.Pages.{Plan}

abbrev pub page_rules : CleanPage → Rules (Result (List Message) CleanFault)
page_rules page = clean_rules page.ctx (has_octet page.drops) page.limits

-- the ROUTE-REFRESH that an OPEN may offer
abbrev pub offers_or : Refreshes → Option Agreed → Refreshes
offers_or offers None = offers
offers_or offers (Some terms) = terms.refresh

abbrev pub clean_plan : Refreshes → Context → (ℕ → Bool) → Limits → Plan Kind (Result (List Message) CleanFault)
clean_plan offers ctx drops limits = record { rules = clean_rules ctx drops limits; first = λ m. first_line offers ctx drops limits m m.kind }
