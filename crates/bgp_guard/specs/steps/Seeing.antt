-- What one side sees of what the code keeps, and steps of receiving on it.
use mathlib.Core.Logic.{inl, inr}
use Rattle.std.specs.Prelude.{◌≡◌, ℕ, ◌<◌, ◌≤◌, Bool, List, [], ◌∷◌, length, drop, Option, None, Some, Result, Ok, Err}
use Rattle.bgp_frame.specs.declared.kind.Kind.{Kind}
use Rattle.bgp_frame.specs.declared.kind.WideKind.{WideKind}
use Rattle.bgp_frame.specs.declared.kind.WideKind.TheVariants as wide
use Rattle.bgp_open.specs.declared.fault.OpenFault.{OpenFault}
use Rattle.bgp_open.specs.declared.message.Open.{Open}
use Rattle.bgp_open.specs.Prelude.{reading_of}
use Rattle.bgp_msg.specs.declared.message.Message.{Message}
use Rattle.bgp_clean.specs.Prelude.{WideMessage, base}
use Rattle.bgp_guard.specs.declared.came.Came.{Came}
use Rattle.bgp_guard.specs.declared.line.Half as code
use Rattle.bgp_guard.specs.declared.line.Line.{Line}
use Rattle.bgp_guard.specs.declared.rules.Rules.{Rules}
use Rattle.bgp_guard.specs.declared.stage.Stage.{Stage}
use Rattle.bgp_guard.specs.Guard.{Half, Sight, Spoken, spoken_by}
use Rattle.bgp_guard.specs.Hearing.{heard, peer_behind, ready_behind}
use Rattle.bgp_guard.specs.Came.{CameIn}
use Rattle.bgp_guard.specs.Halves.{half_with}

-- what one side sees, with these held octets of it and of the other
abbrev pub sight_with : List ℕ → List ℕ → Stage → Line → Line → Sight
sight_with held others stage this other = record { stage = stage; this = half_with held this; other = half_with others other }

abbrev pub sight_of : Stage → code.Half → code.Half → Sight
sight_of stage this other = sight_with this.framer other.framer stage this.line other.line

-- what an OPEN says, by the reading of its body, where it has no fault
abbrev pub said_in : Result Open OpenFault → Option Spoken
said_in (Ok o) = Some (spoken_by o)
said_in (Err fault) = None

-- octets of these messages: of one OPEN, and read as it
pub record IsReadOpen (ns : List WideMessage) (b : List ℕ) : Type 0 where
  pub value : Open
  pub is : ns ≡ base (Message.Open value) ∷ []
  pub reads : reading_of (drop 19 b) ≡ Ok value

-- octets that replace an UPDATE or a ROUTE-REFRESH: their length distinguishes them from a KEEPALIVE
abbrev pub IsReadUpdate : List WideMessage → List ℕ → Type 0
IsReadUpdate (inl (Message.Update u) ∷ later) b = 23 ≤ length b
IsReadUpdate (inr r ∷ later) b = 23 ≤ length b
IsReadUpdate (inl Message.Keepalive ∷ []) b = length b ≡ 19
IsReadUpdate _ b = ⊥

-- what is known of the octets that replace a message of a kind
abbrev pub IsReadIn : WideKind → List WideMessage → List ℕ → Type 0
IsReadIn (wide.Base Kind.Open) ns b = IsReadOpen ns b
IsReadIn (wide.Base Kind.Update) ns b = IsReadUpdate ns b
IsReadIn wide.Refresh ns b = IsReadUpdate ns b
IsReadIn kind ns b = 0 < length ns

abbrev pub half_behind : WideKind → List WideMessage → Half → Half
half_behind kind ns h = record h { peer = peer_behind kind ns h.peer; ready = ready_behind kind h.ready }

-- the result of what is held
pub record IsSettled (rules : Rules) (silent : Bool) (old : Sight) (came : Came) (new : Sight) : Type 0 where
  pub after : new ≡ heard rules silent old
  pub told : CameIn rules silent old came

-- an OPEN has at least 29 octets
abbrev pub CanBeRead : WideKind → List ℕ → Type 0
CanBeRead (wide.Base Kind.Open) b = 29 ≤ length b
CanBeRead _ b = Unit {0}
