-- The printed form of a message, in the caller's buffer.
use Rattle.std.specs.Prelude.{◌≡◌, ◌⊎◌, ℕ, List, length, nat_le, Option, Some, None, if◌then◌else◌}
use Rattle.bgp_frame.specs.Step.{Step}
use Rattle.bgp_frame.specs.Prelude.{ShowsFront}
use Rattle.bgp_frame.specs.declared.step.Step.TheVariants as step
use Rattle.bgp_open.specs.declared.context.Context.{Context}
use Rattle.bgp_msg.specs.Prelude.{out_of, of_fault}
use Rattle.bgp_text.specs.Outcome.{outcome_lines}
use Rattle.ristulva_c.specs.declared.status.TheConstants.{INCOMPLETE, MEMORY, OK, ROOM}
use Rattle.ristulva_c.specs.Copied.{copied}

-- the lines of what octets begin with: none of less than a message
abbrev pub lines_of : Context → ℕ → Step → Option (List ℕ)
lines_of ctx place step.More = None
lines_of ctx place (step.Frame f) = Some (outcome_lines place f.len (out_of ctx (record { kind = f.kind; body = f.body.now })))
lines_of ctx place (step.Fault fault) = Some (outcome_lines place 0 (of_fault fault))

-- what a call has: its status, and the caller's memory before and after it
pub record Writing : Type 0 where
  pub status : ℕ
  pub before : List ℕ
  pub behind : List ℕ
  pub len_before : ℕ
  pub len_behind : ℕ

-- nothing is changed
pub record IsLeft (answer : ℕ) (w : Writing) : Type 0 where
  pub status : w.status ≡ answer
  pub buffer : w.behind ≡ w.before
  pub len : w.len_behind ≡ w.len_before

-- the text is written to the buffer where there is room; its length is written either way
pub record IsWritten (text : List ℕ) (w : Writing) : Type 0 where
  pub status : w.status ≡ (if nat_le (length text) (length w.before) then OK else ROOM)
  pub buffer : w.behind ≡ copied text w.before
  pub len : w.len_behind ≡ length text

-- less than a message; or the lines, for which an allocation can fail
abbrev pub Prints : Option (List ℕ) → Writing → Type 0
Prints None w = IsLeft INCOMPLETE w
Prints (Some text) w = IsWritten text w ⊎ IsLeft MEMORY w

-- the lines of what the octets begin with are written
pub record IsPrinted (ctx : Context) (place : ℕ) (octets : List ℕ) (w : Writing) : Type 0 where
  pub found : Step
  pub shows : ShowsFront octets found
  pub prints : Prints (lines_of ctx place found) w
