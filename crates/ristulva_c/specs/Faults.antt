-- The octets of the fault of a message, and those that a note on it is about.
use Rattle.std.specs.Prelude.{◌≡◌, ◌==◌, ◌-◌, ◌||◌, ℕ, List, drop, take, nat_lt, Option, None, Some, if◌then◌else◌}
use Rattle.bgp_frame.specs.Step.{Step}
use Rattle.bgp_frame.specs.Prelude.{message_in, ShowsFront}
use Rattle.bgp_frame.specs.declared.step.Step.TheVariants as step
use Rattle.bgp_open.specs.declared.context.Context.{Context}
use Rattle.bgp_attr.specs.declared.why.Why.TheVariants as why
use Rattle.bgp_fields.specs.declared.field.Span as fields
use Rattle.bgp_fields.specs.Prelude.{header_place, note_place, reset_place}
use Rattle.ristulva_c.specs.declared.notes.ToldNote.{ToldNote}
use Rattle.ristulva_c.specs.declared.span.Span.{Span}
use Rattle.ristulva_c.specs.declared.status.TheConstants.{INCOMPLETE, OK}
use Rattle.ristulva_c.specs.Span.{no_span}

-- octets as reported: where there are none, an empty span
abbrev pub place_told : Option fields.Span → Span
place_told None = no_span
place_told (Some s) = record { at = s.at; len = s.len }

-- what a call has: its status, and the caller's memory before and after it
pub record Placing : Type 0 where
  pub status : ℕ
  pub before : Span
  pub behind : Span

-- nothing is changed
pub record IsLeft (answer : ℕ) (w : Placing) : Type 0 where
  pub status : w.status ≡ answer
  pub out : w.behind ≡ w.before

-- this span is written
pub record IsTold (place : Option fields.Span) (w : Placing) : Type 0 where
  pub status : w.status ≡ OK
  pub out : w.behind ≡ place_told place

-- by what the octets begin with: less than a message; a message, and the octets for which it is answered by a reset, where it is; or a header with a fault
abbrev pub Faults : Context → List ℕ → Step → Placing → Type 0
Faults ctx octets step.More w = IsLeft INCOMPLETE w
Faults ctx octets (step.Frame f) w = IsTold (reset_place ctx (message_in f)) w
Faults ctx octets (step.Fault fault) w = IsTold (Some (header_place (take 19 octets) fault)) w

pub record IsFault (ctx : Context) (octets : List ℕ) (w : Placing) : Type 0 where
  pub found : Step
  pub shows : ShowsFront octets found
  pub faults : Faults ctx octets found w

-- the octets of a whole message that a note on it is about, by the note as reported: none where it says that an attribute is missing (14)
abbrev pub noted_place : List ℕ → ToldNote → Option fields.Span
noted_place octets told =
    if (told.why == 14) || nat_lt told.at 19 then None
    else note_place (drop 19 octets) (record { at = told.at - 19; kind = told.kind; why = why.Flags })

abbrev pub Places : List ℕ → ToldNote → Step → Placing → Type 0
Places octets note step.More w = IsLeft INCOMPLETE w
Places octets note (step.Frame f) w = IsTold (noted_place (take f.len octets) note) w
Places octets note (step.Fault fault) w = IsTold None w

pub record IsNotePlace (octets : List ℕ) (note : ToldNote) (w : Placing) : Type 0 where
  pub found : Step
  pub shows : ShowsFront octets found
  pub places : Places octets note found w
