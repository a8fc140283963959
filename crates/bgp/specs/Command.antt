-- What the program does with its command line.
use Rattle.std.specs.Prelude.{◌≡◌, ◌≢◌, ◌⊎◌, ℕ, Bool, true, false, not, ◌||◌, List, [], Option, Result, Err, if◌then◌else◌}
use Rattle.std.specs.Io.KnownBytes.{Keeps}
use Rattle.clap.specs.Words.{IsAmong, Text}
use Rattle.clap.specs.declared.error.kind.ErrorKind.{ErrorKind}
use Rattle.clap.specs.declared.error.kind.ErrorKind.TheVariants as error
use Rattle.bgp_open.specs.declared.context.Context.{Context}
use Rattle.bgp_terms.specs.Prelude.{Agreed, plain_terms}
use Rattle.bgp_terms.specs.declared.refreshes.Refreshes.{Refreshes}
use Rattle.bgp_terms.specs.declared.refreshes.Refreshes.TheVariants as refreshes
use Rattle.bgp_wire.specs.Prelude.{has_octet}
use Rattle.bgp_wire.specs.declared.octet_set.OctetSet.{OctetSet}
use Rattle.bgp_clean.specs.Limits.{no_limits}
use Rattle.bgp_engine.specs.declared.fault.ToolFault.{ToolFault}
use Rattle.bgp_engine.specs.declared.tally.Tally.{Tally}
use Rattle.bgp_engine.specs.Prelude.{Io, Reports, CheckedBy, CheckedUnder, NarrowedBy, NarrowedUnder, Printed, PrintedBy, PrintedUnder, Hexed, HexedWith, CleanedBy, CleanedIn, CleanedUnder, without_words, status_of}
use Rattle.bgp_engine.specs.Run as engine
use Rattle.bgp_engine.specs.declared.printing.Style.{Style}
use Rattle.bgp_engine.specs.declared.printing.Style.TheVariants as style
use Rattle.bgp_engine.specs.Check.{Checked}
use Rattle.bgp_engine.specs.FromHex.{Copied}
use Rattle.bgp_engine.specs.Narrow.{Narrowed}
use Rattle.bgp_words.specs.declared.request.FlagTerms.{FlagTerms}
use Rattle.bgp_words.specs.declared.request.Request.{Request}
use Rattle.bgp_words.specs.declared.request.Request.TheVariants.{Show, Explain, Check, Narrow, Clean, ToHex, FromHex, Loop}
use Rattle.bgp_words.specs.declared.request.Session.{Session}
use Rattle.bgp_words.specs.declared.request.Session.TheVariants.{Flags, Opens}
use Rattle.bgp_loop.specs.Loop.{IsOfFile, RunsFile, TracesFile}
use Rattle.bgp_words.specs.CommandLine.{AsksFor, faults_of}

-- a script ran: nothing was read of the reader
pub record RunsScript (io : Io) (outcome : Result Tally ToolFault) : Type 0 where
  pub unread : Keeps io.reader_old io.reader_new
  pub ran : RunsFile io.writer_old io.writer_new outcome

-- and the trace of its moves was written before the report
pub record TracesScript (io : Io) (outcome : Result Tally ToolFault) : Type 0 where
  pub unread : Keeps io.reader_old io.reader_new
  pub ran : TracesFile io.writer_old io.writer_new outcome

-- the file of the other direction was read, and the engine ran by its octets
pub record RanBy (reports : List ℕ → Reports) (hex : Bool) (io : Io) (outcome : Result Tally ToolFault) : Type 0 where
  pub theirs : List ℕ
  pub answers : engine.Answers (reports theirs) hex io outcome

-- an allocation failed, or that file couldn't be read: nothing was read of the reader, and nothing written
pub record HasNoFile (io : Io) (outcome : Result Tally ToolFault) : Type 0 where
  pub fault : ToolFault
  pub fails : outcome ≡ Err fault
  pub of_file : IsOfFile fault
  pub unread : Keeps io.reader_old io.reader_new
  pub unwritten : Keeps io.writer_old io.writer_new

abbrev pub RunsBy : (List ℕ → Reports) → Bool → Io → Result Tally ToolFault → Type 0
RunsBy reports hex io outcome = RanBy reports hex io outcome ⊎ HasNoFile io outcome

-- in lines of text, or of JSON
abbrev pub style_of : Bool → Style
style_of json = if json then style.Json else style.Lines

-- the same with fields
abbrev pub fields_style_of : Bool → Style
fields_style_of json = if json then style.ExplainedJson else style.Explained

-- without unrecognised attributes of the types in a set
abbrev pub cleaned_by : OctetSet → List ℕ → Reports
cleaned_by drops theirs = CleanedBy theirs (has_octet drops) no_limits

-- a context, ROUTE-REFRESH as the reader accepts it, and whose routes have path identifiers
abbrev pub flag_terms : FlagTerms → Agreed
flag_terms f = record (plain_terms f.context) { refresh = f.refresh; paths4 = f.paths.ip4; paths6 = f.paths.ip6 }

abbrev pub has_refresh : Refreshes → Bool
has_refresh refreshes.None = false
has_refresh refreshes.Plain = true
has_refresh refreshes.Enhanced = true

-- the flags say no more than a context
abbrev pub are_plain : FlagTerms → Bool
are_plain f = not (has_refresh f.refresh || (f.paths.ip4 || f.paths.ip6))

-- the first where it holds, else the second
abbrev pub either_reports : Bool → Reports → Reports → Reports
either_reports true plain wide = plain
either_reports false plain wide = wide

-- the reports of the flags: in the context, or where ROUTE-REFRESH is offered or routes have path identifiers, in these terms
abbrev pub by_flags : (Context → Reports) → (Agreed → Reports) → FlagTerms → Reports
by_flags plain under f = either_reports (are_plain f) (plain f.context) (under (flag_terms f))

abbrev pub cleaned_in : OctetSet → Context → Reports
cleaned_in drops ctx = CleanedIn ctx (has_octet drops) no_limits

abbrev pub cleaned_under : OctetSet → Agreed → Reports
cleaned_under drops terms = CleanedUnder terms (has_octet drops) no_limits

-- messages were printed in a style, by the flags or by what both OPENs agree on
abbrev pub Prints : Session → Style → Bool → Bool → Io → Result Tally ToolFault → Type 0
Prints (Flags f) style only_faults hex io outcome = engine.Answers (by_flags (Printed style only_faults) (PrintedUnder style only_faults) f) hex io outcome
Prints Opens style only_faults hex io outcome = RunsBy (PrintedBy style only_faults) hex io outcome

-- the engine of a request ran, with this outcome: which one, and whether it read hexadecimal text
abbrev pub Runs : Request → Io → Result Tally ToolFault → Type 0
Runs (Show session hex json only_faults) io outcome = Prints session (style_of json) only_faults hex io outcome
Runs (Explain session hex json only_faults) io outcome = Prints session (fields_style_of json) only_faults hex io outcome
Runs (Check (Flags f) hex) io outcome = engine.Answers (by_flags Checked CheckedUnder f) hex io outcome
Runs (Check Opens hex) io outcome = RunsBy CheckedBy hex io outcome
Runs (Narrow (Flags f)) io outcome = engine.Answers (by_flags Narrowed NarrowedUnder f) false io outcome
Runs (Narrow Opens) io outcome = RunsBy NarrowedBy false io outcome
Runs (Clean (Flags f) hex drops) io outcome = engine.Answers (by_flags (cleaned_in drops) (cleaned_under drops) f) hex io (without_words outcome)
Runs (Clean Opens hex drops) io outcome = RunsBy (cleaned_by drops) hex io (without_words outcome)
Runs (ToHex false) io outcome = engine.Answers Hexed false io outcome
Runs (ToHex true) io outcome = engine.Answers (HexedWith refreshes.Plain) false io outcome
Runs FromHex io outcome = engine.Answers Copied true io outcome
Runs (Loop tcp false) io outcome = RunsScript io outcome
Runs (Loop tcp true) io outcome = TracesScript io outcome

-- the engine of a request ran, and the answer is the status of its outcome
pub record HasRun (request : Request) (io : Io) (answer : ℕ) : Type 0 where
  pub outcome : Result Tally ToolFault
  pub ran : Runs request io outcome
  pub is_status : answer ≡ status_of outcome

-- what is narrowed has 4-octet AS numbers
abbrev pub IsWide : Request → Type 0
IsWide (Narrow (Flags f)) = f.context.as4 ≡ true
IsWide _ = Unit {0}

-- The words ask for an engine. It ran, as the outcome says, and the answer is its status.
pub record RunsEngine (words : List Text) (io : Io) (answer : ℕ) : Type 0 where
  pub request : Request
  pub file : Text
  pub asked : AsksFor words request file
  pub without_fault : faults_of words ≡ []
  pub has_run : HasRun request io answer

-- 3 where an allocation failed; 0 where help was requested, and 4 where it couldn't be written; 2 else
pub record IsExplained (kind : ErrorKind) (answer : ℕ) : Type 0 where
  pub memory : kind ≡ error.OutOfMemory → answer ≡ 3
  pub help : (kind ≡ error.DisplayHelp) ⊎ (kind ≡ error.DisplayVersion) → (answer ≡ 0) ⊎ (answer ≡ 4)
  pub misuse : kind ≢ error.OutOfMemory → kind ≢ error.DisplayHelp → kind ≢ error.DisplayVersion → answer ≡ 2

-- nothing is written to the output, but for help
abbrev pub IsQuiet : ErrorKind → Option (List ℕ) → Option (List ℕ) → Type 0
IsQuiet kind writer_old writer_new = kind ≢ error.DisplayHelp → kind ≢ error.DisplayVersion → Keeps writer_old writer_new

-- Nothing was read: the words have an error, or an allocation failed.
pub record Explains (words : List Text) (io : Io) (answer : ℕ) : Type 0 where
  pub unread : Keeps io.reader_old io.reader_new
  pub kind : ErrorKind
  pub is_met : (kind ≡ error.OutOfMemory) ⊎ IsAmong kind (faults_of words)
  pub explained : IsExplained kind answer
  pub quiet : IsQuiet kind io.writer_old io.writer_new

abbrev pub Answers : List Text → Io → ℕ → Type 0
Answers words io answer = RunsEngine words io answer ⊎ Explains words io answer
