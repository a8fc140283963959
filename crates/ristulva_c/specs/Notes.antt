-- The notes on an UPDATE, in numbers (RFC 7606, section 6).
use Rattle.std.specs.Prelude.{◌≡◌, ◌==◌, ◌+◌, ◌≤◌, ℕ, List, [], ◌∷◌, length, map, nat_le, if◌then◌else◌}
use Rattle.bgp_frame.specs.Step.{Step}
use Rattle.bgp_frame.specs.Prelude.{ShowsFront}
use Rattle.bgp_frame.specs.declared.step.Step.TheVariants as step
use Rattle.bgp_open.specs.declared.context.Context.{Context}
use Rattle.bgp_attr.specs.declared.why.Why.{Why}
use Rattle.bgp_attr.specs.declared.why.Why.TheVariants as why
use Rattle.bgp_update.specs.declared.note.Note.{Note}
use Rattle.bgp_msg.specs.declared.outcome.Outcome.{Outcome}
use Rattle.bgp_msg.specs.Prelude.{out_of}
use Rattle.bgp_msg.specs.declared.outcome.Outcome.TheVariants as outcome
use Rattle.ristulva_c.specs.declared.notes.ToldNote.{ToldNote}
use Rattle.ristulva_c.specs.declared.status.TheConstants.{INCOMPLETE, OK, ROOM}

-- the number of what is wrong
abbrev pub number_of_why : Why → ℕ
number_of_why why.Flags = 1
number_of_why why.Length = 2
number_of_why why.Value = 3
number_of_why why.SegmentType = 4
number_of_why why.SegmentCount = 5
number_of_why why.SegmentEnd = 6
number_of_why why.Repeated = 7
number_of_why why.External = 8
number_of_why why.FourOctet = 9
number_of_why why.Family = 10
number_of_why why.Unneeded = 11
number_of_why why.Emptied = 12
number_of_why why.Cut = 13
number_of_why why.Missing = 14
number_of_why why.AsZero = 15

-- a note with the offset of its attribute in the message; 0 for one that is missing
abbrev pub note_told : Note → ToldNote
note_told n = record { at = if n.at == 0 then 0 else 19 + n.at; kind = n.kind; why = number_of_why n.why }

-- the notes on a message
abbrev pub notes_in : Outcome → List Note
notes_in (outcome.Took m notes) = notes
notes_in (outcome.Withdraw routes notes) = notes
notes_in (outcome.Reset n) = []

-- as reported
abbrev pub told_in : Outcome → List ToldNote
told_in o = map note_told (notes_in o)

-- the caller's list with these notes first, as many as fit; the elements after them are unchanged
abbrev pub listed : List ToldNote → List ToldNote → List ToldNote
listed [] places = places
listed (n ∷ ns) [] = []
listed (n ∷ ns) (old ∷ places) = n ∷ listed ns places

-- what a call has: its status, and the caller's memory before and after it
pub record Listing : Type 0 where
  pub status : ℕ
  pub before : List ToldNote
  pub behind : List ToldNote
  pub count_before : ℕ
  pub count_behind : ℕ

-- nothing is changed
pub record IsLeft (answer : ℕ) (l : Listing) : Type 0 where
  pub status : l.status ≡ answer
  pub list : l.behind ≡ l.before
  pub count : l.count_behind ≡ l.count_before

-- these notes are listed, as many as fit; their number is written either way, and is at most what a message has room for
pub record IsListed (notes : List ToldNote) (l : Listing) : Type 0 where
  pub status : l.status ≡ (if nat_le (length notes) (length l.before) then OK else ROOM)
  pub list : l.behind ≡ listed notes l.before
  pub count : l.count_behind ≡ length notes
  pub few : length notes ≤ 1361

-- by what the octets begin with: less than a message; a message, and the notes of its outcome; a header with a fault, which has none
abbrev pub Lists : Context → Step → Listing → Type 0
Lists ctx step.More l = IsLeft INCOMPLETE l
Lists ctx (step.Frame f) l = IsListed (told_in (out_of ctx (record { kind = f.kind; body = f.body.now }))) l
Lists ctx (step.Fault fault) l = IsListed [] l

pub record IsNoted (ctx : Context) (octets : List ℕ) (l : Listing) : Type 0 where
  pub found : Step
  pub shows : ShowsFront octets found
  pub lists : Lists ctx found l
