-- What is passed on of a message by the terms of a session: a ROUTE-REFRESH goes on in 23 octets where the receiver acts on it (RFC 2918; RFC 7313),
-- each other message as in their context.
use mathlib.Core.Logic.{inl, inr}
use Rattle.std.specs.Prelude.{◌≡◌, ◌⊎◌, ℕ, Bool, true, false, ◌&&◌, ◌||◌, List, [], ◌∷◌, ◌++◌, map, Result, Ok, Err, if◌then◌else◌}
use Rattle.std.specs.List.{flat_map}
use Rattle.bgp_numbers.specs.declared.afi.TheConstants.{IPV4, IPV6}
use Rattle.bgp_frame.specs.declared.kind.WideKind.{WideKind}
use Rattle.bgp_frame.specs.declared.kind.WideKind.TheVariants as wide
use Rattle.bgp_frame.specs.declared.notification.Notification.{Notification}
use Rattle.bgp_frame.specs.Prelude.{IsLength, MessageIn}
use Rattle.bgp_open.specs.declared.capability.Capability.TheVariants.{Multi}
use Rattle.bgp_open.specs.declared.context.Context.{Context}
use Rattle.bgp_open.specs.Prelude.{is_unicast}
use Rattle.bgp_terms.specs.declared.refreshes.Refreshes.{Refreshes}
use Rattle.bgp_terms.specs.Prelude.{Agreed}
use Rattle.bgp_refresh.specs.declared.fault.RefreshFault.{RefreshFault}
use Rattle.bgp_refresh.specs.declared.mark.RefreshMark.{RefreshMark}
use Rattle.bgp_refresh.specs.declared.mark.RefreshMark.TheVariants as mark
use Rattle.bgp_refresh.specs.Prelude.{Refresh, refresh_notification, refresh_octets, refresh_of}
use Rattle.bgp_update.specs.declared.update.Update.{Update}
use Rattle.bgp_msg.specs.declared.message.Message.{Message}
use Rattle.bgp_msg.specs.Prelude.{canonical}
use Rattle.bgp_clean.specs.declared.cleaned.Cleaned.{Cleaned}
use Rattle.bgp_clean.specs.declared.cleaned.Cleaned.TheVariants.{HandedOn, Ends}
use Rattle.bgp_clean.specs.declared.fault.CleanFault.{CleanFault}
use Rattle.bgp_clean.specs.Clean.{cleaned_with}

-- a message of RFC 4271, or a ROUTE-REFRESH
abbrev pub WideMessage : Type 0
WideMessage = Message ⊎ Refresh

-- its one written form
abbrev pub canonical_in : Agreed → WideMessage → List ℕ
canonical_in terms (inl n) = canonical terms.context n
canonical_in terms (inr r) = refresh_octets r

abbrev pub base : Message → WideMessage
base n = inl n

abbrev pub bases : Result (List Message) CleanFault → Result (List WideMessage) CleanFault
bases (Ok ns) = Ok (map base ns)
bases (Err f) = Err f

-- ---- a ROUTE-REFRESH

-- both offer the family
abbrev pub is_of_family : Context → Refresh → Bool
is_of_family ctx r = (ctx.ip4 && is_unicast IPV4 (Multi r.afi r.safi)) || (ctx.ip6 && is_unicast IPV6 (Multi r.afi r.safi))

abbrev pub has_effect : RefreshMark → Bool
has_effect mark.Request = true
has_effect mark.Begin = true
has_effect mark.End = true
has_effect (mark.Ignored subtype) = false

-- the receiver acts on it (RFC 2918, section 4; RFC 7313, section 5)
abbrev pub is_heeded : Context → Refresh → Bool
is_heeded ctx r = has_effect r.mark && is_of_family ctx r

-- without what follows its four octets; where it has no effect, a KEEPALIVE replaces it
abbrev pub handed_refresh : Context → Refresh → List WideMessage
handed_refresh ctx r = (if is_heeded ctx r then inr (record r { rest = [] }) else inl Message.Keepalive) ∷ []

abbrev pub fault_by : Notification → CleanFault
fault_by n = CleanFault.Reset n.code n.subcode

abbrev pub cleaned_refresh : Context → List ℕ → Result Refresh RefreshFault → Result (List WideMessage) CleanFault
cleaned_refresh ctx body (Ok r) = Ok (handed_refresh ctx r)
cleaned_refresh ctx body (Err fault) = Err (fault_by (refresh_notification fault body))

-- ---- each message

abbrev pub cleaned_kind : Refreshes → Agreed → (ℕ → Bool) → (Update → Bool) → Bool → WideKind → List ℕ → Result (List WideMessage) CleanFault
cleaned_kind offers terms drops refuses first (wide.Base kind) body = bases (cleaned_with offers terms.context drops refuses first (record { kind = kind; body = body }))
cleaned_kind offers terms drops refuses first wide.Refresh body = cleaned_refresh terms.context body (refresh_of terms.refresh body)

-- The messages that are passed on for one by these terms, the stream's first or not, where an OPEN may offer this ROUTE-REFRESH, unrecognised attributes
-- of the types `drops` are left out, and the announcements `refuses` are refused; or why the cleaned stream ends before it
abbrev pub cleaned_in : Refreshes → Agreed → (ℕ → Bool) → (Update → Bool) → Bool → MessageIn WideKind → Result (List WideMessage) CleanFault
cleaned_in offers terms drops refuses first m = cleaned_kind offers terms drops refuses first m.kind m.body

-- ---- its octets

abbrev pub octets_handed_in : Agreed → List WideMessage → List ℕ
octets_handed_in terms ns = flat_map (canonical_in terms) ns

-- what is passed on is appended to what was there; where the stream ends, nothing is added
abbrev pub IsCleanedIn : Agreed → Result (List WideMessage) CleanFault → List ℕ → List ℕ → Cleaned → Type 0
IsCleanedIn terms (Ok ns) old new HandedOn = new ≡ old ++ octets_handed_in terms ns
IsCleanedIn terms (Ok ns) old new (Ends g) = ⊥
IsCleanedIn terms (Err f) old new HandedOn = ⊥
IsCleanedIn terms (Err f) old new (Ends g) = (g ≡ f) × (new ≡ old)

-- a message of RFC 4271 has a length that it allows
abbrev pub HasBaseLength : WideKind → ℕ → Type 0
HasBaseLength (wide.Base kind) n = IsLength kind n
HasBaseLength wide.Refresh n = Unit {0}
