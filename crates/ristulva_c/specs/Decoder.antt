-- What the calls on a decoder do: a stream arrives in pieces, and each message is reported as by `ristulva_judge`.
use Rattle.std.specs.Prelude.{◌≡◌, ◌<◌, ◌≤◌, ◌⊎◌, ℕ, true, false, List, ◌++◌, length, take, Option, None, Some, Result}
use Rattle.bgp_frame.specs.declared.fault.HeadFault.{HeadFault}
use Rattle.bgp_frame.specs.Step.{Step}
use Rattle.bgp_frame.specs.Prelude.{Message, Waits, ShowsStep, IsContent}
use Rattle.bgp_frame.specs.declared.step.Step.TheVariants as step
use Rattle.bgp_open.specs.declared.context.Context.{Context}
use Rattle.bgp_msg.specs.declared.outcome.Outcome.{Outcome}
use Rattle.bgp_msg.specs.Prelude.{Decoding, Going, given_by, behind, fresh, holding, IsBehind, IsFed, IsLook, out_of, of_fault}
use Rattle.bgp_msg.specs.declared.look.Look.TheVariants as look
use Rattle.ristulva_c.specs.declared.status.TheConstants.{IN_USE, INCOMPLETE, MEMORY, NO_SESSION, OK, ROOM, STATE}
use Rattle.ristulva_c.specs.Copied.{copied}
use Rattle.ristulva_c.specs.Judge as judge
use Rattle.ristulva_c.specs.Judge.{Answers, Judging, PartsLie}

-- a decoder is made where the handle has none, unless an allocation failed
abbrev pub IsMade : Context → Option Decoding → ℕ → Option Decoding → Type 0
IsMade ctx (Some old) status new = (status ≡ IN_USE) × (new ≡ Some old)
IsMade ctx None status new = ((status ≡ OK) × (new ≡ Some (fresh ctx))) ⊎ ((status ≡ MEMORY) × (new ≡ None))

abbrev pub IsFreed : {D : Type 0} → Option D → ℕ → Option D → Type 0
IsFreed None status new = (status ≡ NO_SESSION) × (new ≡ None)
IsFreed (Some old) status new = (status ≡ OK) × (new ≡ None)

-- the number of octets held is written; where there is no decoder, nothing is
abbrev pub IsHeldTold : Option Decoding → ℕ → ℕ → ℕ → Type 0
IsHeldTold None status before behind = (status ≡ NO_SESSION) × (behind ≡ before)
IsHeldTold (Some d) status before behind = (status ≡ OK) × (behind ≡ length d.held)

-- ---- the outcome of a whole message

-- the outcome of the message, or of the header with a fault, that is found in a context
abbrev pub IsOutcome : Context → Step → Outcome → Type 0
IsOutcome ctx step.More o = ⊥
IsOutcome ctx (step.Frame f) o = o ≡ out_of ctx (record { kind = f.kind; body = f.body.now })
IsOutcome ctx (step.Fault fault) o = o ≡ of_fault fault

-- octets are a whole message or a header with a fault, and no more; it is reported as by `ristulva_judge`, and the octets are copied
pub record IsWholeTold (ctx : Context) (octets : List ℕ) (o : Outcome) (j : Judging) (before behind : List ℕ) : Type 0 where
  pub found : Step
  pub shows : ShowsStep octets found
  pub outcome : IsOutcome ctx found o
  pub status : j.status ≡ OK
  pub answers : Answers ctx found j
  pub lie : PartsLie octets found
  pub message : behind ≡ copied octets before

-- what a decoder that holds these octets gives of them
abbrev pub GivesHeld : Decoding → Outcome → Type 0
GivesHeld d o = (what : Result Message HeadFault) × (IsContent what d.held × (o ≡ (given_by d what).1))

-- ---- what is pulled from a piece

-- what a call has: its status, and the caller's memory before and after it
pub record Pulling (D : Type 0) : Type 0 where
  pub judging : Judging
  pub old : Option D
  pub new : Option D
  pub message_before : List ℕ
  pub message_behind : List ℕ
  pub taken_before : ℕ
  pub taken_behind : ℕ

-- nothing is changed
pub record IsLeft {D : Type 0} (answer : ℕ) (p : Pulling D) : Type 0 where
  pub told : judge.IsLeft answer p.judging
  pub decoder : p.new ≡ p.old
  pub message : p.message_behind ≡ p.message_before
  pub taken : p.taken_behind ≡ p.taken_before

-- a reset was reported: nothing after it is read
pub record IsOver (d : Decoding) (p : Pulling Decoding) : Type 0 where
  pub stopped : d.stopped ≡ true
  pub left : IsLeft STATE p

-- the whole piece is consumed, and what is held then is less than a message
pub record Awaits (d : Decoding) (piece : List ℕ) (p : Pulling Decoding) : Type 0 where
  pub going : d.stopped ≡ false
  pub waits : Waits (d.held ++ piece)
  pub told : judge.IsLeft INCOMPLETE p.judging
  pub decoder : p.new ≡ Some (holding d (d.held ++ piece))
  pub message : p.message_behind ≡ p.message_before
  pub taken : p.taken_behind ≡ length piece

-- octets of the piece are fed up to the end of a message, or of a header with a fault: that is reported, and the decoder continues after it
pub record Gives (d : Decoding) (piece : List ℕ) (p : Pulling Decoding) : Type 0 where
  pub going : d.stopped ≡ false
  pub fed : IsFed d piece p.taken_behind (holding d (d.held ++ take p.taken_behind piece))
  pub outcome : Outcome
  pub told : IsWholeTold d.ctx (d.held ++ take p.taken_behind piece) outcome p.judging p.message_before p.message_behind
  pub decoder : p.new ≡ Some (behind d outcome)

abbrev pub Pulls : Option Decoding → List ℕ → Pulling Decoding → Type 0
Pulls None piece p = IsLeft NO_SESSION p
Pulls (Some d) piece p = IsOver d p ⊎ (Awaits d piece p ⊎ Gives d piece p)

-- both buffers have room for any outcome, or nothing is done
abbrev pub PullsWithRoom : Option Decoding → List ℕ → Pulling Decoding → Type 0
PullsWithRoom old piece p =
    ((4096 ≤ length p.message_before) × ((4075 ≤ length p.judging.info_before) × Pulls old piece p))
    ⊎ (((length p.message_before < 4096) ⊎ (length p.judging.info_before < 4075)) × IsLeft ROOM p)

-- ---- what a look finds of it

-- the caller's memory for an outcome and for its message
pub record Places : Type 0 where
  pub judging : Judging
  pub message_before : List ℕ
  pub message_behind : List ℕ

-- where nothing is found, nothing is changed, and the piece is to be fed; else n octets of it are fed, and what is held then is reported, with where
-- the decoder continues
abbrev pub IsFoundTold : Decoding → List ℕ → Option (ℕ × Going) → Places → Type 0
IsFoundTold d piece None p = IsLook d piece look.Feed × (judge.IsLeft OK p.judging × (p.message_behind ≡ p.message_before))
IsFoundTold d piece (Some (n, next)) p = IsFed d piece n (holding d (d.held ++ take n piece))
    × ((o : Outcome) × (IsBehind d o next × IsWholeTold d.ctx (d.held ++ take n piece) o p.judging p.message_before p.message_behind))
