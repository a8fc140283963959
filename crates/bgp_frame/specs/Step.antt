-- What a piece of a stream begins with, and what a step shows of the octets that are held.
use Rattle.std.specs.Prelude.{◌≡◌, ℕ, ◌≤◌, List, length, take, Err}
use Rattle.bgp_frame.specs.declared.kind.Kind.{Kind}
use Rattle.bgp_frame.specs.declared.step.Frame as frame
use Rattle.bgp_frame.specs.declared.step.Step as declared
use Rattle.bgp_frame.specs.declared.step.Step.TheVariants as step
use Rattle.bgp_frame.specs.Types.{Types}
use Rattle.bgp_frame.specs.Kind.{plain}
use Rattle.bgp_frame.specs.Head.{head_of_in}
use Rattle.bgp_frame.specs.Frame.{MessageIn, IsFrameIn, WaitsIn}

abbrev pub FrameIn : Type 0 → Type 0
FrameIn K = frame.Frame K

abbrev pub StepIn : Type 0 → Type 0
StepIn K = declared.Step K

-- the message that a frame holds
abbrev pub message_in : {K : Type 0} → FrameIn K → MessageIn K
message_in frame = record { kind = frame.kind; body = frame.body.now }

module _ {K : Type 0} (ty : Types K) where
  -- less than a message, or a message with whatever follows it, or a header with a fault and whatever follows that
  abbrev pub ShowsFrontIn : List ℕ → StepIn K → Type 0
  ShowsFrontIn piece step.More = WaitsIn ty piece
  ShowsFrontIn piece (step.Frame frame) = (frame.len ≤ length piece) × IsFrameIn ty (message_in frame) (take frame.len piece)
  ShowsFrontIn piece (step.Fault fault) = (19 ≤ length piece) × (head_of_in ty piece ≡ Err fault)

  abbrev pub ShowsStepIn : List ℕ → StepIn K → Type 0
  ShowsStepIn held step.More = WaitsIn ty held
  ShowsStepIn held (step.Frame frame) = IsFrameIn ty (message_in frame) held × (frame.len ≡ length held)
  ShowsStepIn held (step.Fault fault) = (length held ≡ 19) × (head_of_in ty held ≡ Err fault)

-- ---- by the types of RFC 4271

abbrev pub Frame : Type 0
Frame = FrameIn Kind

abbrev pub Step : Type 0
Step = StepIn Kind

abbrev pub ShowsFront : List ℕ → Step → Type 0
ShowsFront = ShowsFrontIn plain

abbrev pub ShowsStep : List ℕ → Step → Type 0
ShowsStep = ShowsStepIn plain
