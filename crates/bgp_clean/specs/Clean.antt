-- What is passed on of a message, and where a cleaned stream ends (RFC 7606, sections 2 and 5; RFC 4271, section 6).
use Rattle.std.specs.Prelude.{ℕ, Bool, List, [], ◌∷◌, map, Option, None, Some, Result, Ok, Err, if◌then◌else◌}
use Rattle.bgp_frame.specs.declared.kind.Kind.{Kind}
use Rattle.bgp_frame.specs.Frame as frame
use Rattle.bgp_open.specs.declared.context.Context.{Context}
use Rattle.bgp_open.specs.declared.message.Open.{Open}
use Rattle.bgp_terms.specs.declared.refreshes.Refreshes.{Refreshes}
use Rattle.bgp_terms.specs.declared.refreshes.Refreshes.TheVariants as refreshes
use Rattle.bgp_update.specs.declared.update.Update.{Update}
use Rattle.bgp_update.specs.Prelude.{parts_of}
use Rattle.bgp_msg.specs.declared.message.Message.{Message}
use Rattle.bgp_msg.specs.declared.outcome.Outcome.{Outcome}
use Rattle.bgp_msg.specs.Prelude.{out_of}
use Rattle.bgp_clean.specs.declared.fault.CleanFault.{CleanFault}
use Rattle.bgp_clean.specs.Opens.{cleaned_open_with, lacks_family}
use Rattle.bgp_clean.specs.Updates.{cleaned_update, withdrawal, parts_handed, end_of}
pub use Rattle.bgp_update.specs.EndOfRib.{family_in}

abbrev pub family_by : Context → Kind → List ℕ → Option ℕ
family_by ctx Kind.Update body = family_in ctx (parts_of body)
family_by ctx _ body = None

-- the family whose End-of-RIB a message is, where it is one (RFC 4724, section 2)
abbrev pub ended_family : Context → frame.Message → Option ℕ
ended_family ctx m = family_by ctx m.kind m.body

-- an OPEN is passed on only as the first message, and where it doesn't lose all of its families; it offers at most this ROUTE-REFRESH
abbrev pub handed_open : Refreshes → Bool → Open → Result (List Message) CleanFault
handed_open offers first o =
    if first then (if lacks_family o then Err CleanFault.NoFamily else Ok (Message.Open (cleaned_open_with offers o) ∷ [])) else Err CleanFault.LateOpen

-- where no part remains, a KEEPALIVE replaces the UPDATE: none becomes an End-of-RIB
abbrev pub or_keepalive : List Update → List Message
or_keepalive [] = Message.Keepalive ∷ []
or_keepalive (u ∷ us) = map Message.Update (u ∷ us)

-- an UPDATE is passed on in its parts, and an End-of-RIB as itself
abbrev pub handed_update : (Update → Bool) → Option ℕ → Update → List Message
handed_update refuses (Some family) u = Message.Update (end_of family) ∷ []
handed_update refuses None u = or_keepalive (parts_handed refuses u)

-- what is passed on of a message that is accepted
abbrev pub handed : Refreshes → (ℕ → Bool) → (Update → Bool) → Bool → Option ℕ → Message → Result (List Message) CleanFault
handed offers drops refuses first family (Message.Open o) = handed_open offers first o
handed offers drops refuses first family (Message.Update u) = Ok (handed_update refuses family (cleaned_update drops u))
handed offers drops refuses first family (Message.Notification n) = Ok (Message.Notification n ∷ [])
handed offers drops refuses first family Message.Keepalive = Ok (Message.Keepalive ∷ [])

abbrev pub cleaned_outcome : Refreshes → (ℕ → Bool) → (Update → Bool) → Bool → Option ℕ → Outcome → Result (List Message) CleanFault
cleaned_outcome offers drops refuses first family (Outcome.Took said notes) = handed offers drops refuses first family said
cleaned_outcome offers drops refuses first family (Outcome.Withdraw routes notes) = Ok (Message.Update (withdrawal routes) ∷ [])
cleaned_outcome offers drops refuses first family (Outcome.Reset n) = Err (CleanFault.Reset n.code n.subcode)

-- where an OPEN may offer this ROUTE-REFRESH
abbrev pub cleaned_with : Refreshes → Context → (ℕ → Bool) → (Update → Bool) → Bool → frame.Message → Result (List Message) CleanFault
cleaned_with offers ctx drops refuses first m = cleaned_outcome offers drops refuses first (ended_family ctx m) (out_of ctx m)

-- The messages that are passed on for one, the stream's first or not, where unrecognised attributes of the types `drops` are left out, and the
-- announcements `refuses` are refused; or why the cleaned stream ends before it
abbrev pub cleaned : Context → (ℕ → Bool) → (Update → Bool) → Bool → frame.Message → Result (List Message) CleanFault
cleaned ctx drops refuses first m = cleaned_with refreshes.None ctx drops refuses first m
