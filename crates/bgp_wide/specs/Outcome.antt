-- The outcome of a message by the terms of a session: a message of RFC 4271 is judged in their context, and a ROUTE-REFRESH by what the reader accepts
-- (RFC 2918; RFC 7313). A message has at most 4096 octets, whatever was agreed on.
use mathlib.Core.Logic.{inl, inr}
use Rattle.std.specs.Prelude.{◌⊎◌, ℕ, Bool, true, false, List, Result, Ok, Err, is_err}
use Rattle.bgp_frame.specs.declared.fault.HeadFault.{HeadFault}
use Rattle.bgp_frame.specs.declared.grammar.WideGrammar.{WideGrammar}
use Rattle.bgp_frame.specs.declared.kind.WideKind.{WideKind}
use Rattle.bgp_frame.specs.declared.kind.WideKind.TheVariants as wide
use Rattle.bgp_frame.specs.declared.notification.Notification.{Notification}
use Rattle.bgp_frame.specs.Prelude.{MessageIn, StreamRulesIn, Types, wide_types}
use Rattle.bgp_msg.specs.declared.outcome.Outcome.{Outcome}
use Rattle.bgp_msg.specs.Prelude.{is_reset, of_fault, out_of}
use Rattle.bgp_open.specs.declared.context.Context.{Context}
use Rattle.bgp_refresh.specs.declared.fault.RefreshFault.{RefreshFault}
use Rattle.bgp_refresh.specs.Prelude.{Refresh, refresh_notification, refresh_of}
use Rattle.bgp_terms.specs.declared.refreshes.Refreshes.{Refreshes}
use Rattle.bgp_terms.specs.declared.refreshes.Refreshes.TheVariants as refreshes
use Rattle.bgp_terms.specs.Prelude.{Agreed}

-- a ROUTE-REFRESH, or the NOTIFICATION for one that is refused
abbrev pub Refreshed : Type 0
Refreshed = Result Refresh Notification

abbrev pub answered : List ℕ → Result Refresh RefreshFault → Refreshed
answered body (Ok r) = Ok r
answered body (Err fault) = Err (refresh_notification fault body)

-- that of a body, by what the reader accepts
abbrev pub refreshed : Refreshes → List ℕ → Refreshed
refreshed accepted body = answered body (refresh_of accepted body)

-- the reader offers it
abbrev pub is_offered : Refreshes → Bool
is_offered refreshes.None = false
is_offered refreshes.Plain = true
is_offered refreshes.Enhanced = true

-- messages of at most 4096 octets
abbrev pub grammar_of : Refreshes → WideGrammar
grammar_of accepted = record { refresh = is_offered accepted; long = false }

-- the types of message that are read
abbrev pub types_in : Agreed → Types WideKind
types_in terms = wide_types (grammar_of terms.refresh)

-- that of a message of RFC 4271, or of a header with a fault; or that of a ROUTE-REFRESH
abbrev pub WideOutcome : Type 0
WideOutcome = Outcome ⊎ Refreshed

abbrev pub of_kind : Context → Refreshes → WideKind → List ℕ → WideOutcome
of_kind ctx accepted (wide.Base kind) body = inl (out_of ctx (record { kind = kind; body = body }))
of_kind ctx accepted wide.Refresh body = inr (refreshed accepted body)

-- the outcome of a whole message
abbrev pub out_in : Agreed → MessageIn WideKind → WideOutcome
out_in terms m = of_kind terms.context terms.refresh m.kind m.body

abbrev pub fault_in : HeadFault → WideOutcome
fault_in f = inl (of_fault f)

-- the session ends
abbrev pub resets_in : WideOutcome → Bool
resets_in (inl o) = is_reset o
resets_in (inr r) = is_err r

-- how messages and headers are judged by terms
abbrev pub rules_in : Agreed → StreamRulesIn WideKind WideOutcome
rules_in terms = record { of_message = out_in terms; of_fault = fault_in; resets = resets_in }
