-- The outcome of a message, in numbers.
use Rattle.std.specs.Prelude.{◌≡◌, Some, ℕ, List, [], length, nat_le, None, if◌then◌else◌}
use Rattle.bgp_frame.specs.declared.kind.Kind.{Kind}
use Rattle.bgp_frame.specs.Step.{Step}
use Rattle.bgp_frame.specs.Prelude.{code_of, ShowsFront}
use Rattle.bgp_frame.specs.declared.kind.Kind.TheVariants as kind
use Rattle.bgp_frame.specs.declared.notification.Notification.{Notification}
use Rattle.bgp_frame.specs.declared.step.Step.TheVariants as step
use Rattle.bgp_open.specs.declared.context.Context.{Context}
use Rattle.bgp_update.specs.Prelude.{parts_of}
use Rattle.bgp_update.specs.Parts as update
use Rattle.bgp_msg.specs.declared.message.Message.TheVariants as message
use Rattle.bgp_msg.specs.declared.outcome.Outcome.{Outcome}
use Rattle.bgp_msg.specs.Prelude.{out_of, of_fault}
use Rattle.bgp_msg.specs.declared.outcome.Outcome.TheVariants as outcome
use Rattle.ristulva_c.specs.declared.judge.Verdict.{Verdict}
use Rattle.ristulva_c.specs.declared.judge.TheConstants.{OPEN, UPDATE, NOTIFICATION, KEEPALIVE, WITHDRAW, RESET}
use Rattle.ristulva_c.specs.declared.parts.ToldParts.{ToldParts}
use Rattle.ristulva_c.specs.declared.status.TheConstants.{INCOMPLETE, OK, ROOM}
use Rattle.ristulva_c.specs.Copied.{copied}
use Rattle.ristulva_c.specs.Parts.{parts_told, Lie}

-- the number of an outcome
abbrev pub number_of : Outcome → ℕ
number_of (outcome.Took (message.Open o) notes) = OPEN
number_of (outcome.Took (message.Update u) notes) = UPDATE
number_of (outcome.Took (message.Notification n) notes) = NOTIFICATION
number_of (outcome.Took message.Keepalive notes) = KEEPALIVE
number_of (outcome.Withdraw routes notes) = WITHDRAW
number_of (outcome.Reset n) = RESET

abbrev pub nothing_said : Notification
nothing_said = record { code = 0; subcode = 0; info = record { items = [] } }

-- the NOTIFICATION that was received, or that ends the session; nothing where there is none
abbrev pub said_by : Outcome → Notification
said_by (outcome.Took (message.Notification n) notes) = n
said_by (outcome.Took (message.Open o) notes) = nothing_said
said_by (outcome.Took (message.Update u) notes) = nothing_said
said_by (outcome.Took message.Keepalive notes) = nothing_said
said_by (outcome.Withdraw routes notes) = nothing_said
said_by (outcome.Reset n) = n

-- an outcome of a message of this type and length, with the offsets of its parts
abbrev pub verdict_told : ℕ → ℕ → ToldParts → Outcome → Verdict
verdict_told kind len parts o = record {
  verdict = number_of o;
  kind = kind;
  code = (said_by o).code;
  subcode = (said_by o).subcode;
  len = len;
  info_len = length (said_by o).info.items;
  parts = parts;
}

-- the parts of a message: of an UPDATE alone
abbrev pub parts_at : Kind → List ℕ → ToldParts
parts_at kind.Update body = parts_told (parts_of body)
parts_at _ body = parts_told None

-- what a call has: its status, and the caller's memory before and after it
pub record Judging : Type 0 where
  pub status : ℕ
  pub before : Verdict
  pub behind : Verdict
  pub info_before : List ℕ
  pub info_behind : List ℕ

-- nothing is changed
pub record IsLeft (answer : ℕ) (j : Judging) : Type 0 where
  pub status : j.status ≡ answer
  pub out : j.behind ≡ j.before
  pub info : j.info_behind ≡ j.info_before

-- the outcome is written, and the data of its NOTIFICATION are copied where there is room
pub record IsTold (told : Verdict) (o : Outcome) (j : Judging) : Type 0 where
  pub status : j.status ≡ (if nat_le (length (said_by o).info.items) (length j.info_before) then OK else ROOM)
  pub out : j.behind ≡ told
  pub info : j.info_behind ≡ copied (said_by o).info.items j.info_before

-- by what the octets begin with: less than a message; a message, and its outcome in the context; or a header with a fault
abbrev pub Answers : Context → Step → Judging → Type 0
Answers ctx step.More j = IsLeft INCOMPLETE j
Answers ctx (step.Frame f) j = IsTold (verdict_told (code_of f.kind) f.len (parts_at f.kind f.body.now) (out_of ctx (record { kind = f.kind; body = f.body.now })))
    (out_of ctx (record { kind = f.kind; body = f.body.now })) j
Answers ctx (step.Fault fault) j = IsTold (verdict_told 0 0 (parts_told None) (of_fault fault)) (of_fault fault) j

-- the octets at the reported offsets of an UPDATE's parts are these parts
abbrev pub PartsLie : List ℕ → Step → Type 0
PartsLie octets (step.Frame f) = (p : update.Parts) → parts_of f.body.now ≡ Some p → Lie octets p (parts_told (Some p))
PartsLie octets step.More = Unit {0}
PartsLie octets (step.Fault fault) = Unit {0}

pub record IsJudged (ctx : Context) (octets : List ℕ) (j : Judging) : Type 0 where
  pub found : Step
  pub shows : ShowsFront octets found
  pub answers : Answers ctx found j
  pub lie : PartsLie octets found
