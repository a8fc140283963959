-- The sections of the RFCs by which a message is answered by a reset, and those that require a note on it.
use Rattle.std.specs.Prelude.{ℕ, List, [], ◌∷◌, Option, None, Some, MatchOption}
use Rattle.bgp_frame.specs.Step.{Step}
use Rattle.bgp_frame.specs.declared.step.Step.TheVariants as step
use Rattle.bgp_frame.specs.Prelude.{message_in, ShowsFront}
use Rattle.bgp_open.specs.declared.context.Context.{Context}
use Rattle.bgp_attr.specs.declared.why.Why.{Why}
use Rattle.bgp_attr.specs.declared.why.Why.TheVariants as why
use Rattle.bgp_attr.specs.Table.{entry_of}
use Rattle.bgp_fields.specs.declared.cause.Cause.{Cause}
use Rattle.bgp_fields.specs.Prelude.{reset_cause}
use Rattle.bgp_text.specs.Sections.{cause_section, note_section}
use Rattle.ristulva_c.specs.declared.notes.ToldNote.{ToldNote}
use Rattle.ristulva_c.specs.declared.status.TheConstants.{INCOMPLETE, RANGE}
use Rattle.ristulva_c.specs.Text.{Writing, IsLeft, IsWritten}

-- the section by which a message is answered by a reset: an empty text where it isn't
abbrev pub section_of : Option Cause → List ℕ
section_of None = []
section_of (Some cause) = cause_section cause

-- by what the octets begin with: less than a message; a message; or a header with a fault
abbrev pub FaultSection : Context → Step → Writing → Type 0
FaultSection ctx step.More w = IsLeft INCOMPLETE w
FaultSection ctx (step.Frame f) w = IsWritten (section_of (reset_cause ctx (message_in f))) w
FaultSection ctx (step.Fault fault) w = IsWritten (section_of (Some Cause.Header)) w

pub record IsFaultSection (ctx : Context) (octets : List ℕ) (w : Writing) : Type 0 where
  pub found : Step
  pub shows : ShowsFront octets found
  pub writes : FaultSection ctx found w

-- what is wrong, by its number
unfoldable pub why_of : ℕ → Option Why
why_of number = entry_of number (
    (1, Some why.Flags) ∷ (
    (2, Some why.Length) ∷ (
    (3, Some why.Value) ∷ (
    (4, Some why.SegmentType) ∷ (
    (5, Some why.SegmentCount) ∷ (
    (6, Some why.SegmentEnd) ∷ (
    (7, Some why.Repeated) ∷ (
    (8, Some why.External) ∷ (
    (9, Some why.FourOctet) ∷ (
    (10, Some why.Family) ∷ (
    (11, Some why.Unneeded) ∷ (
    (12, Some why.Emptied) ∷ (
    (13, Some why.Cut) ∷ (
    (14, Some why.Missing) ∷ (
    (15, Some why.AsZero) ∷ [])))))))))))))))
    None

-- the section of a note, where its number has a reason
abbrev pub IsNoteSection : ToldNote → Writing → Type 0
IsNoteSection note w = MatchOption (why_of note.why) (IsLeft RANGE w) (λ y. IsWritten (note_section note.kind y) w)
