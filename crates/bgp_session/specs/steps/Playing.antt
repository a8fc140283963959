-- Steps of the proof that moves are made as they are defined. Only private functions cite them.
use Rattle.std.specs.Prelude.{◌≡◌, ◌≤◌, ℕ, Bool, true, false, List, [], ◌∷◌, ◌++◌, length, Option, None, Some}
use Rattle.bgp_machine.specs.Prelude.{IsAtRest, refusal_of}
use Rattle.bgp_machine.specs.declared.send_fault.SendFault.{SendFault}
use Rattle.bgp_update.specs.declared.update.Update.{Update}
use Rattle.bgp_session.specs.declared.moves.Move.{Move}
use Rattle.bgp_session.specs.declared.side.Side.{Side}
use Rattle.bgp_session.specs.Laws.{AllSendRanges}
use Rattle.bgp_session.specs.Pair.{End, pair, sent}
use Rattle.bgp_session.specs.Sight.{Sight, observed}
use Rattle.bgp_session.specs.Wire.{failed_behind, Handed, Grows, answers_in, Trace}
use Rattle.bgp_session.specs.World.{World, end_of, seen_by, with_pair, feeds, feeds_seen, lost, lost_seen, Turn, Asks, calls_in, sights_in, Ran, ran, behind, delivered}

-- both sessions have nothing left to do
abbrev pub Rests : World → Type 0
Rests w = IsAtRest w.a.session × IsAtRest w.b.session

-- a wire and its answers, and an observer, before and after a turn
pub record Wired (S : Type 0) : Type 0 where
  pub honest : Bool
  pub after : S → Sight → S
  pub old : List Bool
  pub new : List Bool
  pub trace_old : Trace S
  pub trace_new : Trace S

-- these answers were given, in these turns, and the observer got reports of what they show
pub record Gives {S : Type 0} (wired : Wired S) (given : List Bool) (turns : List Turn) : Type 0 where
  pub told : wired.new ≡ wired.old ++ given
  pub counted : wired.trace_new.failed ≡ failed_behind wired.trace_old.failed given
  pub kept : Grows wired.trace_old.calls wired.trace_new.calls (calls_in turns)
  pub gave : answers_in (calls_in turns) ≡ given

-- what was reported to the observer is what these turns show
abbrev pub Observes : {S : Type 0} → Wired S → List Turn → Type 0
Observes wired turns = wired.trace_new.seen ≡ observed wired.after wired.trace_old.seen (sights_in turns)

-- a turn was played up to another turn: the wire gave these answers to the calls of these turns, and where it is honest, the turn used up these
-- answers and left all later ones, and the observer got reports of what the turns show
pub record PlaysOn {S : Type 0} (wired : Wired S) (turn rest : List Bool → Ran) : Type 0 where
  pub given : List Bool
  pub turns : List Turn
  pub answers : Gives wired given turns
  pub observes : wired.honest ≡ true → Observes wired turns
  pub goes_on : wired.honest ≡ true → (later : List Bool) → turn (given ++ later) ≡ behind turns (rest later)

-- a turn was played, and made this world
abbrev pub Plays : {S : Type 0} → Wired S → (List Bool → Ran) → World → Type 0
Plays wired turn w = PlaysOn wired turn (ran w)

-- a part of a delivery was played: these octets remain to be passed
pub record Delivers {S : Type 0} (wired : Wired S) (turn : List Bool → Ran) (side : Side) (octets : List ℕ) (w : World) : Type 0 where
  pub pieces : ℕ
  pub enough : length octets ≤ pieces
  pub so_far : PlaysOn wired turn (delivered pieces side octets w)

-- a piece passed, or it didn't
abbrev pub passed : Bool → Side → List ℕ → World → World
passed true side piece w = feeds side piece w
passed false side piece w = lost w

abbrev pub passed_seen : Bool → Side → List ℕ → World → List Sight
passed_seen true side piece w = feeds_seen side piece w
passed_seen false side piece w = lost_seen w

pub record Passes {S : Type 0} (wired : Wired S) (answer : Bool) (side : Side) (piece : List ℕ) (w v : World) : Type 0 where
  pub answers : Gives wired (answer ∷ []) (Asks (Handed side piece answer) ∷ [])
  pub observes : wired.honest ≡ true → wired.trace_new.seen ≡ observed wired.after wired.trace_old.seen (passed_seen answer side piece w)
  pub passes : wired.honest ≡ true → v ≡ passed answer side piece w

-- an UPDATE was sent, or refused
abbrev pub Sends : End → End → Update → End → End → Option SendFault → Type 0
Sends this other u this_new other_new None =
    (refusal_of this.session u ≡ None) × ((notes : List (Side × ℕ × ℕ)) → sent (pair this other notes) u ≡ pair this_new other_new notes)
Sends this other u this_new other_new (Some fault) = (refusal_of this.session u ≡ Some fault) × (this_new ≡ this) × (other_new ≡ other)

-- a side tried to send an UPDATE
abbrev pub sent_if : Option SendFault → Side → Update → World → World
sent_if None side u w = with_pair side w (sent (seen_by side w) u)
sent_if (Some fault) side u w = w

abbrev pub IsTried : Side → Update → World → Option SendFault → World → Type 0
IsTried side u w found v = (refusal_of (end_of side w).session u ≡ found) × (v ≡ sent_if found side u w)

-- each number of what these moves sent is within its field, for the answers that were given, whatever the later ones are
abbrev pub HaveSoFar : Bool → List Move → World → List Bool → Type 0
HaveSoFar honest moves w answers = honest ≡ true → (later : List Bool) → AllSendRanges moves w (answers ++ later)
