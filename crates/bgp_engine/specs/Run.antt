-- What an engine reads, writes and answers.
use Rattle.std.specs.Prelude.{◌≡◌, ◌⊎◌, ℕ, Bool, true, false, List, ◌++◌, Option, None, Some, Result, Ok, Err, MatchResult}
use Rattle.bgp_engine.specs.Below.{Consumes, Appends, IsAtEnd}
use Rattle.bgp_engine.specs.Below.{End}
use Rattle.bgp_engine.specs.declared.tally.Tally.{Tally}
use Rattle.bgp_engine.specs.declared.fault.ToolFault.{ToolFault}
use Rattle.bgp_engine.specs.HexText.{spelled, bad_from}
use Rattle.bgp_engine.specs.Output.{IsFront}
use Rattle.bgp_engine.specs.Report.{Report, IsOver, IsWaiting, IsWordless}

-- what a reader still has and a writer holds, before a call and after it
pub record Io : Type 0 where
  pub reader_old : Option (List ℕ)
  pub reader_new : Option (List ℕ)
  pub writer_old : Option (List ℕ)
  pub writer_new : Option (List ℕ)

-- what a reader still has, as `remaining` says, and a writer holds, as `contents` does
abbrev pub io : {R W : Type 0} → (R → Option (List ℕ)) → R → R → (W → Option (List ℕ)) → W → W → Io
io remaining input_old input_new contents output_old output_new =
    record { reader_old = remaining input_old; reader_new = remaining input_new; writer_old = contents output_old; writer_new = contents output_new }

-- the stream that a text is: as it is, or decoded from hexadecimal
abbrev pub stream_of : Bool → List ℕ → List ℕ
stream_of true text = spelled text
stream_of false text = text

-- the offset of the first bad character, which only hexadecimal text can have
abbrev pub bad_of : Bool → ℕ → List ℕ → Option ℕ
bad_of true n text = bad_from n text
bad_of false n text = None

-- which reports a stream has
abbrev pub Reports : Type 1
Reports = List ℕ → Report → Type 0

-- the stream is over, whatever follows, or the reader has ended and no character was bad
abbrev pub IsAllRead : Bool → List ℕ → Option (List ℕ) → End → Type 0
IsAllRead hex text reader_new e = IsOver e ⊎ (IsAtEnd reader_new × (bad_of hex 0 text ≡ None))

-- A text was read, up to the reader's end if the stream in it isn't over, and all of its report was written.
pub record Finishes (reports : Reports) (hex : Bool) (io : Io) (tally : Tally) : Type 0 where
  pub text : List ℕ
  pub read : Consumes io.reader_old io.reader_new text
  pub report : Report
  pub reported : reports (stream_of hex text) report
  pub answers : report.answer ≡ Ok tally
  pub wrote : Appends io.writer_old io.writer_new (report.lines ++ report.last)
  pub all_read : IsAllRead hex text io.reader_new report.end_of

-- n is the offset of the first bad character, whether the text has ended after it or whatever follows, and the octets before it don't end
-- the stream
pub record IsBadAt (hex : Bool) (text : List ℕ) (reader_new : Option (List ℕ)) (e : End) (n : ℕ) : Type 0 where
  pub place : bad_of hex 0 text ≡ Some n
  pub is_certain : ((later : List ℕ) → bad_of hex 0 (text ++ later) ≡ Some n) ⊎ IsAtEnd reader_new
  pub not_over : IsWaiting e

-- what each fault says of the text, of its stream's report, and of what was written: a prefix of the lines; of lines and last text where
-- the writer failed; all of it where the stream can't be narrowed or cleaned, or has no context, and then there is nothing to write
abbrev pub IsFaultOf : Bool → List ℕ → Option (List ℕ) → Report → List ℕ → ToolFault → Type 0
IsFaultOf hex text reader_new report written ToolFault.Memory = IsFront written report.lines
IsFaultOf hex text reader_new report written ToolFault.Read = IsFront written report.lines
IsFaultOf hex text reader_new report written ToolFault.Write = IsFront written (report.lines ++ report.last)
IsFaultOf hex text reader_new report written (ToolFault.BadHex n) = (written ≡ report.lines) × IsBadAt hex text reader_new report.end_of n
IsFaultOf hex text reader_new report written (ToolFault.Narrow n) =
    (written ≡ report.lines ++ report.last) × (report.answer ≡ Err (ToolFault.Narrow n)) × IsAllRead hex text reader_new report.end_of
IsFaultOf hex text reader_new report written (ToolFault.Clean n why) =
    IsWordless why × (written ≡ report.lines ++ report.last) × (report.answer ≡ Err (ToolFault.Clean n why)) × IsAllRead hex text reader_new report.end_of
IsFaultOf hex text reader_new report written (ToolFault.NoContext why) =
    (written ≡ report.lines ++ report.last) × (report.answer ≡ Err (ToolFault.NoContext why)) × IsAllRead hex text reader_new report.end_of
IsFaultOf hex text reader_new report written (ToolFault.Script n) = ⊥
IsFaultOf hex text reader_new report written ToolFault.Net = ⊥

-- A text was read, and what was written is of the report of its stream.
pub record Fails (reports : Reports) (hex : Bool) (io : Io) (f : ToolFault) : Type 0 where
  pub text : List ℕ
  pub read : Consumes io.reader_old io.reader_new text
  pub report : Report
  pub reported : reports (stream_of hex text) report
  pub written : List ℕ
  pub wrote : Appends io.writer_old io.writer_new written
  pub is_fault : IsFaultOf hex text io.reader_new report written f

abbrev pub Answers : Reports → Bool → Io → Result Tally ToolFault → Type 0
Answers reports hex io answer = MatchResult answer (Finishes reports hex io) (Fails reports hex io)
