-- Outcomes of two ends, whatever is done: the terms of the laws.
use Rattle.std.specs.Prelude.{◌≡◌, ◌≢◌, ◌<◌, ◌^◌, ◌⊎◌, ◌&&◌, ℕ, Bool, List, [], ◌∷◌, ◌++◌, length, map, Option, None, Some, Ok}
use Rattle.std.specs.List.{All, Contains}
use Rattle.bgp_numbers.specs.declared.error.TheConstants.{OPEN_MESSAGE, BAD_PEER_AS, BAD_IDENTIFIER, HOLD_TIMER_EXPIRED, UNSPECIFIC, CEASE}
use Rattle.bgp_open.specs.declared.context.Context.{Context}
use Rattle.bgp_open.specs.Prelude.{agreement, Settings, IsAllowed, own_of}
use Rattle.bgp_machine.specs.declared.timer.Timer.TheVariants.{Hold}
use Rattle.bgp_machine.specs.declared.send_fault.SendFault.{SendFault}
use Rattle.bgp_machine.specs.Prelude.{told_with, refusal_of}
use Rattle.bgp_update.specs.declared.path_info.PathInfo.{PathInfo}
use Rattle.bgp_update.specs.declared.update.Update.{Update}
use Rattle.bgp_update.specs.Prelude.{onward_of, HasUpdateRanges}
use Rattle.bgp_session.specs.declared.moves.Move.{Move}
use Rattle.bgp_session.specs.declared.report.Round.{Round}
use Rattle.bgp_session.specs.declared.side.Side.{Side}
use Rattle.bgp_session.specs.declared.side.Side.TheVariants.{A, B}
use Rattle.bgp_session.specs.Pair.{Note}
use Rattle.bgp_session.specs.World.{World, begins, end_of, rounds_of, moved, all_moved}

-- ---- what is possible

-- a speaker can be set so: the settings aren't refused, and each number is within its field
pub record CanBeSet (s : Settings) : Type 0 where
  pub allowed : IsAllowed s
  pub local_as : s.local_as < 2 ^ 32
  pub hold : s.hold < 2 ^ 16
  pub id : length s.id ≡ 4

-- each number of an UPDATE that isn't refused is within its field
abbrev pub HasRangesUnless : Option SendFault → Update → Type 0
HasRangesUnless None u = HasUpdateRanges u
HasRangesUnless (Some fault) u = Unit {0}

-- each number of what the move sends in this world
abbrev pub SendsRanges : World → Move → Type 0
SendsRanges w (Move.Send side u) = HasRangesUnless (refusal_of (end_of side w).session u) u
SendsRanges w _ = Unit {0}

-- and of what each of these moves sends, made on the world after those before it
abbrev pub AllSendRanges : List Move → World → List Bool → Type 0
AllSendRanges [] w answers = Unit {0}
AllSendRanges (one ∷ later) w answers = SendsRanges w one × AllSendRanges later (moved one w answers).world (moved one w answers).answers

-- each number of what the moves send is within its field
abbrev pub HaveSentRanges : Settings → Settings → List Move → List Bool → Type 0
HaveSentRanges a b moves answers = AllSendRanges moves (begins a b) answers

-- ---- outcomes

-- the world after these moves, for these answers of the wire
abbrev pub world_behind : Settings → Settings → List Move → List Bool → World
world_behind a b moves answers = (all_moved moves (begins a b) answers).world

abbrev pub other_side : Side → Side
other_side A = B
other_side B = A

-- of the settings of A and those of B
abbrev pub settings_of : Side → Settings → Settings → Settings
settings_of A a b = a
settings_of B a b = b

-- ---- what both agree on

abbrev pub context_at : Side → World → Option Context
context_at side w = (end_of side w).session.standing.context

-- a session's context is what its speaker agrees on with the other's OPEN, and where both have a context, it is the same
pub record BothAgree (a b : Settings) (w : World) : Type 0 where
  pub at_a : (ctx : Context) → context_at A w ≡ Some ctx → agreement a (own_of b) ≡ Ok ctx
  pub at_b : (ctx : Context) → context_at B w ≡ Some ctx → agreement b (own_of a) ≡ Ok ctx
  pub same : (x y : Context) → context_at A w ≡ Some x → context_at B w ≡ Some y → x ≡ y

-- ---- why a NOTIFICATION is sent

-- the other's AS number isn't the configured one
pub record IsWrongAs (mine theirs : Settings) (code subcode : ℕ) : Type 0 where
  pub code_is : code ≡ OPEN_MESSAGE
  pub subcode_is : subcode ≡ BAD_PEER_AS
  pub other_as : theirs.local_as ≢ mine.peer_as

-- inside one AS, the other has the speaker's own identifier
pub record IsSameIdentifier (mine theirs : Settings) (code subcode : ℕ) : Type 0 where
  pub code_is : code ≡ OPEN_MESSAGE
  pub subcode_is : subcode ≡ BAD_IDENTIFIER
  pub one_as : mine.local_as ≡ mine.peer_as
  pub same_id : theirs.id ≡ mine.id

-- the Hold Timer of the side expires in one of the moves
pub record IsHeldTooLong (side : Side) (moves : List Move) (code subcode : ℕ) : Type 0 where
  pub code_is : code ≡ HOLD_TIMER_EXPIRED
  pub subcode_is : subcode ≡ UNSPECIFIC
  pub expires : Contains moves (Move.Expire side Hold)

-- the side is stopped in one of the moves
pub record IsStopped (side : Side) (moves : List Move) (code subcode : ℕ) : Type 0 where
  pub code_is : code ≡ CEASE
  pub subcode_is : subcode ≡ UNSPECIFIC
  pub stops : Contains moves (Move.Stop side)

-- the NOTIFICATION has one of four reasons, for a side of the settings `mine`
abbrev pub HasReason : Settings → Settings → Side → List Move → ℕ → ℕ → Type 0
HasReason mine theirs side moves code subcode =
    IsWrongAs mine theirs code subcode ⊎ (IsSameIdentifier mine theirs code subcode ⊎ (IsHeldTooLong side moves code subcode ⊎ IsStopped side moves code subcode))

abbrev pub NoteHasReason : Settings → Settings → List Move → Note → Type 0
NoteHasReason a b moves note = HasReason (settings_of note.0 a b) (settings_of (other_side note.0) a b) note.0 moves note.1 note.2

abbrev pub RoundHasReasons : Settings → Settings → List Move → Round → Type 0
RoundHasReasons a b moves round = All (NoteHasReason a b moves) round.notes

-- ---- what is received

-- 4-octet AS numbers are in use where both offer them
abbrev pub both_wide : Settings → Settings → Bool
both_wide a b = a.as4 && b.as4

-- an UPDATE as the other side receives it: as sent, without what isn't passed on, with its own path and aggregator
abbrev pub heard : Bool → Update → Update × PathInfo
heard wide u = (onward_of (told_with wide u), record { path = u.attrs.as_path; aggregator = u.attrs.aggregator })

-- what was received is the received form of the first UPDATEs that were sent, in order
pub record IsFrontHeard (wide : Bool) (sent : List Update) (got : List (Update × PathInfo)) : Type 0 where
  pub front : List Update
  pub later : List Update
  pub in_order : sent ≡ front ++ later
  pub hears : got ≡ map (heard wide) front

-- that holds of both sides in a round, and neither lost routes to a message that was treated as a withdrawal
pub record HearsFronts (wide : Bool) (round : Round) : Type 0 where
  pub at_b : IsFrontHeard wide round.sent_a round.got_b
  pub at_a : IsFrontHeard wide round.sent_b round.got_a
  pub none_gone_a : round.gone_a ≡ []
  pub none_gone_b : round.gone_b ≡ []

abbrev pub sent_by : Side → Round → List Update
sent_by A round = round.sent_a
sent_by B round = round.sent_b

abbrev pub got_by : Side → Round → List (Update × PathInfo)
got_by A round = round.got_a
got_by B round = round.got_b

-- in the last round, the side received all that the other sent
pub record HeardAll (wide : Bool) (side : Side) (w : World) : Type 0 where
  pub earlier : List Round
  pub last : Round
  pub is_last : rounds_of w ≡ earlier ++ last ∷ []
  pub hears : got_by side last ≡ map (heard wide) (sent_by (other_side side) last)
