-- What the law of the guard claims of the octets of one side, and of those that the other was given.
use Rattle.std.specs.Prelude.{◌≡◌, ◌<◌, ◌≤◌, ◌⊎◌, ◌&&◌, ℕ, suc, Bool, true, false, List, [], ◌∷◌, ◌++◌, is_some, Option, None, Some, Result, Ok, Err}
use Rattle.std.specs.List.{flat_map, AllByRecursion}
use Rattle.bgp_wire.specs.Prelude.{has_octet, Row}
use Rattle.bgp_frame.specs.declared.fault.HeadFault.{HeadFault}
use Rattle.bgp_frame.specs.Prelude.{IsFrameIn, WaitsIn, content_of_in}
use Rattle.bgp_frame.specs.declared.kind.Kind.TheVariants as kind
use Rattle.bgp_frame.specs.declared.kind.WideKind.{WideKind}
use Rattle.bgp_frame.specs.declared.kind.WideKind.TheVariants as wide
use Rattle.bgp_frame.specs.declared.notification.Notification.{Notification}
use Rattle.bgp_open.specs.declared.message.Open.{Open}
use Rattle.bgp_terms.specs.declared.refreshes.Refreshes.TheVariants as refreshes
use Rattle.bgp_terms.specs.Prelude.{Agreed}
use Rattle.bgp_msg.specs.declared.message.Message.{Message}
use Rattle.bgp_clean.specs.declared.fault.CleanFault.{CleanFault}
use Rattle.bgp_clean.specs.Prelude.{WideMessage, base, canonical_in, cleaned_in}
use Rattle.bgp_guard.specs.declared.rules.Rules.{Rules}
use Rattle.bgp_guard.specs.declared.side.Side.{Side}
use Rattle.bgp_guard.specs.declared.stage.Stage.{Stage}
use Rattle.bgp_guard.specs.declared.stage.TheConstants.{OPEN_SECONDS}
use Rattle.bgp_guard.specs.Answers.{Answers, notice}
use Rattle.bgp_guard.specs.Guard.{Framed, Sight, Spoken, is_silent, listens_in, rules_of, runs, spoken_by, types}
use Rattle.bgp_guard.specs.Hearing.{agreed, comes_of, holding, refusal, said_as}
use Rattle.bgp_guard.specs.Life.{Event, Closed, Octet, Stalled, Stopped, Ticked, Unreached, Life, life, life_from}

-- what is passed on of one message, and of those after it
abbrev pub said_then : Bool → WideKind → Result (List WideMessage) CleanFault → List WideMessage → List WideMessage
said_then silent kind (Ok ns) later = said_as silent kind ns ++ later
said_then silent kind (Err f) later = []

abbrev pub direction_from : Agreed → Option Spoken → Rules → Bool → Bool → List Framed → List WideMessage
direction_from terms said rules silent first [] = []
direction_from terms said rules silent first (m ∷ later) =
    said_then silent m.kind (cleaned_in refreshes.Plain terms (has_octet rules.drops) (refusal rules terms.context said) first m) (direction_from terms said rules silent false later)

-- the cleaned form of a direction, by what the OPEN of its side says: the cleaned stream of its messages, without UPDATEs of which nothing remains,
-- or whose routes stay inside
abbrev pub direction : Agreed → Option Spoken → Rules → Bool → List Framed → List WideMessage
direction terms said rules silent messages = direction_from terms said rules silent true messages

pub record Begins (n : WideMessage) (goes_on : List WideMessage → Type 0) (said : List WideMessage) : Type 0 where
  pub later : List WideMessage
  pub is : said ≡ n ∷ later
  pub rest : goes_on later

-- the first are the second in their order, interleaved with KEEPALIVEs of the guard's own
abbrev pub WithKeepalives : List WideMessage → List WideMessage → Type 0
WithKeepalives [] said = said ≡ []
WithKeepalives (n ∷ later) said = Begins n (WithKeepalives later) said ⊎ ((n ≡ base Message.Keepalive) × WithKeepalives later said)

abbrev pub own_octets : Option Notification → List ℕ
own_octets None = []
own_octets (Some n) = notice n

abbrev pub IsNoNotification : Framed → Type 0
IsNoNotification m = m.kind ≡ wide.Base kind.Notification → ⊥

-- the first message is an OPEN, which was passed on, and says this
pub record IsFirst (rules : Rules) (terms : Agreed) (messages : List Framed) (said : Spoken) : Type 0 where
  pub first : Framed
  pub later : List Framed
  pub is : messages ≡ first ∷ later
  pub value : Open
  pub handed : cleaned_in refreshes.Plain terms (has_octet rules.drops) (refusal rules terms.context (Some said)) true first ≡ Ok (base (Message.Open value) ∷ [])
  pub says : said ≡ spoken_by value

-- what is kept of an OPEN is what the passed-on OPEN says
abbrev pub IsKept : Rules → Agreed → List Framed → Option Spoken → Type 0
IsKept rules terms messages None = Unit {0}
IsKept rules terms messages (Some said) = IsFirst rules terms messages said

-- Whole messages arrived in order, and other octets after them. What a side was given, what is queued for it and what was lost as it closed is the
-- cleaned form of these messages, interleaved with KEEPALIVEs of the guard's own, and then nothing or a NOTIFICATION of its own: none where one of
-- these messages is one
pub record IsHandedOver (rules : Rules) (silent : Bool) (terms : Agreed) (kept : Option Spoken) (came given way : List ℕ) : Type 0 where
  pub messages : List Framed
  pub row : List ℕ
  pub rest : List ℕ
  pub whole : came ≡ row ++ rest
  pub frames : Row (IsFrameIn types) messages row
  pub opened : IsKept rules terms messages kept
  pub lost : List ℕ
  pub own : Option Notification
  pub handed : List WideMessage
  pub between : WithKeepalives handed (direction terms kept rules silent messages)
  pub put : given ++ (way ++ lost) ≡ flat_map (canonical_in terms) handed ++ own_octets own
  pub alone : (own ≡ None) ⊎ AllByRecursion IsNoNotification messages

-- While the guard runs, these are all messages received, and nothing of them is lost
pub record IsAllHandedOver (rules : Rules) (silent : Bool) (terms : Agreed) (kept : Option Spoken) (came given way : List ℕ) : Type 0 where
  pub messages : List Framed
  pub row : List ℕ
  pub rest : List ℕ
  pub whole : came ≡ row ++ rest
  pub frames : Row (IsFrameIn types) messages row
  pub opened : IsKept rules terms messages kept
  pub waits : WaitsIn types rest
  pub handed : List WideMessage
  pub between : WithKeepalives handed (direction terms kept rules silent messages)
  pub put : given ++ way ≡ flat_map (canonical_in terms) handed
  pub none : AllByRecursion IsNoNotification messages

-- by the terms that both OPENs agree on
abbrev pub HandsOver : Stage → Rules → Bool → Option Spoken → Option Spoken → List ℕ → List ℕ → List ℕ → Type 0
HandsOver (Stage.Runs n) rules silent kept others came given way = IsAllHandedOver rules silent (agreed kept others) kept came given way
HandsOver (Stage.Ends n) rules silent kept others came given way = IsHandedOver rules silent (agreed kept others) kept came given way

abbrev pub IsOctetIn : Event → Type 0
IsOctetIn (Octet side octet) = octet < 256
IsOctetIn _ = Unit {0}

-- from a side to the other
abbrev pub HandsOn : Life → Side → Type 0
HandsOn a side =
    HandsOver a.guard.stage (rules_of side a.guard.rules) (is_silent side a.guard.rules) (life_from side a).sight.this.peer (life_from side a).sight.other.peer
    (life_from side a).this.came (life_from side a).other.given (life_from side a).sight.other.way

-- ---- why a guard ends

abbrev pub IsAnsweredOr : Result (List WideMessage) Answers → Framed → Type 0
IsAnsweredOr (Ok ns) m = m.kind ≡ wide.Base kind.Notification
IsAnsweredOr (Err answers) m = Unit {0}

-- a message is answered, or is a NOTIFICATION; each header with a fault is answered
abbrev pub EndsContent : Rules → Sight → Option (Result Framed HeadFault) → Type 0
EndsContent rules s None = ⊥
EndsContent rules s (Some (Ok m)) = IsAnsweredOr (comes_of rules (holding s []) m) m
EndsContent rules s (Some (Err fault)) = Unit {0}

-- the side is read, and with this octet a message is whole that ends both directions
abbrev pub EndsHearing : Rules → Sight → ℕ → Type 0
EndsHearing rules s octet = (listens_in s ≡ true) × EndsContent rules s (content_of_in types (s.this.held ++ octet ∷ []))

-- with one more second the OPENs have timed out
abbrev pub IsLast : Stage → Type 0
IsLast (Stage.Runs n) = OPEN_SECONDS ≤ suc n
IsLast (Stage.Ends n) = ⊥

-- an event ends a guard that runs: a side erred, sent a NOTIFICATION, closed, can't be reached or doesn't read, an OPEN was missing for too long, or the
-- owner ends the session
abbrev pub EndsBy : Life → Event → Type 0
EndsBy a (Octet of octet) = EndsHearing (rules_of of a.guard.rules) (life_from of a).sight octet
EndsBy a (Closed of) = (life_from of a).sight.this.stands ≡ true
EndsBy a (Unreached of) = (life_from of a).sight.this.stands ≡ false
EndsBy a (Stalled of) = Unit {0}
EndsBy a Stopped = Unit {0}
EndsBy a Ticked = IsLast a.guard.stage × ((is_some a.guard.outer.peer && is_some a.guard.inner.peer) ≡ false)
EndsBy a _ = ⊥

-- among these events there is one that did, and the guard ran before it
pub record HasReason (rules : Rules) (events : List Event) : Type 0 where
  pub before : List Event
  pub event : Event
  pub behind : List Event
  pub is : events ≡ before ++ event ∷ behind
  pub ran : runs (life rules before).guard.stage ≡ true
  pub ends : EndsBy (life rules before) event

abbrev pub RunsOrHasReason : Stage → Rules → List Event → Type 0
RunsOrHasReason (Stage.Runs n) rules events = Unit {0}
RunsOrHasReason (Stage.Ends n) rules events = HasReason rules events
