-- What the calls on a stream by terms do: it arrives in pieces, and each message is reported as by `ristulva_judge_in`.
use Rattle.std.specs.Prelude.{◌≡◌, ◌<◌, ◌≤◌, ◌⊎◌, ℕ, true, false, List, ◌++◌, length, take, Option, None, Some, Result}
use Rattle.bgp_frame.specs.declared.fault.HeadFault.{HeadFault}
use Rattle.bgp_frame.specs.declared.kind.WideKind.{WideKind}
use Rattle.bgp_frame.specs.declared.step.Step.TheVariants as step
use Rattle.bgp_frame.specs.Step.{StepIn}
use Rattle.bgp_frame.specs.Prelude.{IsContentIn, MessageIn, ShowsStepIn, WaitsIn, message_in}
use Rattle.bgp_terms.specs.Prelude.{Agreed}
use Rattle.bgp_wide.specs.declared.look.WideLook.TheVariants as look
use Rattle.bgp_wide.specs.Prelude.{Decoding, Going, IsBehind, IsFed, IsLook, WideOutcome, behind, fault_in, fresh, given_by, holding, out_in, types_in}
use Rattle.ristulva_c.specs.declared.status.TheConstants.{IN_USE, INCOMPLETE, MEMORY, NO_SESSION, OK, RANGE, ROOM, STATE}
use Rattle.ristulva_c.specs.Copied.{copied}
use Rattle.ristulva_c.specs.Decoder.{IsLeft, Places, Pulling}
use Rattle.ristulva_c.specs.Judge as judge
use Rattle.ristulva_c.specs.Judge.{Judging}
use Rattle.ristulva_c.specs.JudgeIn.{AnswersIn}

-- a stream is made where the handle has none and there are terms, unless an allocation failed
abbrev pub IsMade : Option Agreed → Option Decoding → ℕ → Option Decoding → Type 0
IsMade t (Some old) status new = (status ≡ IN_USE) × (new ≡ Some old)
IsMade None None status new = (status ≡ RANGE) × (new ≡ None)
IsMade (Some t) None status new = ((status ≡ OK) × (new ≡ Some (fresh t))) ⊎ ((status ≡ MEMORY) × (new ≡ None))

-- the number of octets held is written; where there is no stream, nothing is
abbrev pub IsHeldTold : Option Decoding → ℕ → ℕ → ℕ → Type 0
IsHeldTold None status before behind = (status ≡ NO_SESSION) × (behind ≡ before)
IsHeldTold (Some d) status before behind = (status ≡ OK) × (behind ≡ length d.held)

-- ---- the outcome of a whole message

-- the outcome of the message, or of the header with a fault, that is found by terms
abbrev pub IsOutcome : Agreed → StepIn WideKind → WideOutcome → Type 0
IsOutcome t step.More o = ⊥
IsOutcome t (step.Frame f) o = o ≡ out_in t (message_in f)
IsOutcome t (step.Fault fault) o = o ≡ fault_in fault

-- octets are a whole message or a header with a fault, and no more; it is reported as by `ristulva_judge_in`, and the octets are copied
pub record IsWholeTold (t : Agreed) (octets : List ℕ) (o : WideOutcome) (j : Judging) (before behind : List ℕ) : Type 0 where
  pub found : StepIn WideKind
  pub shows : ShowsStepIn (types_in t) octets found
  pub outcome : IsOutcome t found o
  pub status : j.status ≡ OK
  pub answers : AnswersIn t octets found j
  pub message : behind ≡ copied octets before

-- what a stream by these terms that holds these octets gives of them
abbrev pub GivesHeld : Agreed → List ℕ → WideOutcome → Type 0
GivesHeld t held o = (what : Result (MessageIn WideKind) HeadFault) × (IsContentIn (types_in t) what held × (o ≡ (given_by (fresh t) what).1))

-- ---- what is pulled from a piece

-- a reset was reported: nothing after it is read
pub record IsOver (d : Decoding) (p : Pulling Decoding) : Type 0 where
  pub stopped : d.stopped ≡ true
  pub left : IsLeft STATE p

-- the whole piece is consumed, and what is held then is less than a message
pub record Awaits (d : Decoding) (piece : List ℕ) (p : Pulling Decoding) : Type 0 where
  pub going : d.stopped ≡ false
  pub waits : WaitsIn (types_in d.terms) (d.held ++ piece)
  pub told : judge.IsLeft INCOMPLETE p.judging
  pub decoder : p.new ≡ Some (holding d (d.held ++ piece))
  pub message : p.message_behind ≡ p.message_before
  pub taken : p.taken_behind ≡ length piece

-- octets of the piece are fed up to the end of a message, or of a header with a fault: that is reported, and the stream continues after it
pub record Gives (d : Decoding) (piece : List ℕ) (p : Pulling Decoding) : Type 0 where
  pub going : d.stopped ≡ false
  pub fed : IsFed d piece p.taken_behind (holding d (d.held ++ take p.taken_behind piece))
  pub outcome : WideOutcome
  pub told : IsWholeTold d.terms (d.held ++ take p.taken_behind piece) outcome p.judging p.message_before p.message_behind
  pub decoder : p.new ≡ Some (behind d outcome)

abbrev pub Pulls : Option Decoding → List ℕ → Pulling Decoding → Type 0
Pulls None piece p = IsLeft NO_SESSION p
Pulls (Some d) piece p = IsOver d p ⊎ (Awaits d piece p ⊎ Gives d piece p)

-- both buffers have room for any outcome, or nothing is done
abbrev pub PullsWithRoom : Option Decoding → List ℕ → Pulling Decoding → Type 0
PullsWithRoom old piece p =
    ((4096 ≤ length p.message_before) × ((4075 ≤ length p.judging.info_before) × Pulls old piece p))
    ⊎ (((length p.message_before < 4096) ⊎ (length p.judging.info_before < 4075)) × IsLeft ROOM p)

-- ---- what a look finds of it

-- where nothing is found, nothing is changed, and the piece is to be fed; else n octets of it are fed, and what is held then is reported, with where
-- the stream continues
abbrev pub IsFoundTold : Decoding → List ℕ → Option (ℕ × Going) → Places → Type 0
IsFoundTold d piece None p = IsLook d piece look.Feed × (judge.IsLeft OK p.judging × (p.message_behind ≡ p.message_before))
IsFoundTold d piece (Some (n, next)) p = IsFed d piece n (holding d (d.held ++ take n piece))
    × ((o : WideOutcome) × (IsBehind d o next × IsWholeTold d.terms (d.held ++ take n piece) o p.judging p.message_before p.message_behind))
