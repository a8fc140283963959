-- What running a script writes and answers.
use Rattle.std.specs.Prelude.{◌≡◌, ◌⊎◌, ℕ, Bool, true, List, ◌++◌, Option, Result, Ok, Err}
use Rattle.std.specs.Io.KnownBytes.{Keeps, Appends}
use Rattle.bgp_engine.specs.declared.tally.Tally.{Tally}
use Rattle.bgp_engine.specs.declared.fault.ToolFault.{ToolFault}
use Rattle.bgp_engine.specs.Prelude.{AppendsFront, no_tally}
use Rattle.bgp_session.specs.declared.report.Report.{Report}
use Rattle.bgp_session.specs.Prelude.{IsReported, failed_behind}
use Rattle.bgp_script.specs.declared.script.Script.{Script}
use Rattle.bgp_script.specs.ReportText.{report_text}
use Rattle.bgp_script.specs.Script.{script_of}
use Rattle.bgp_loop.specs.Trace.{trace_text}

-- a wire and a writer, before a run and after it: whether the wire is honest, its failures, and what the writer holds
pub record Io : Type 0 where
  pub honest : Bool
  pub failed_old : ℕ
  pub failed_new : ℕ
  pub writer_old : Option (List ℕ)
  pub writer_new : Option (List ℕ)

-- the report of the script's moves over the wire: where that is honest, it is that of two sessions, and whatever the wire, its failures rose by
-- the answers that are false
pub record IsRun (text : List ℕ) (io : Io) (report : Report) : Type 0 where
  pub script : Script
  pub read : script_of text ≡ Ok script
  pub reported : io.honest ≡ true → IsReported script.a script.b script.moves report
  pub failures : io.failed_new ≡ failed_behind io.failed_old report.answers

-- all of the report was written
pub record Finishes (text : List ℕ) (io : Io) (tally : Tally) : Type 0 where
  pub report : Report
  pub ran : IsRun text io report
  pub wrote : Appends io.writer_old io.writer_new (report_text report)
  pub counts : tally ≡ no_tally

-- a prefix of it was written
pub record FailsToWrite (text : List ℕ) (io : Io) : Type 0 where
  pub report : Report
  pub ran : IsRun text io report
  pub wrote : AppendsFront io.writer_old io.writer_new (report_text report)

-- the line is the lowest that is faulty: nothing was played, and nothing written
pub record IsFaulty (text : List ℕ) (io : Io) (n : ℕ) : Type 0 where
  pub lowest : script_of text ≡ Err n
  pub unplayed : io.failed_new ≡ io.failed_old
  pub unwritten : Keeps io.writer_old io.writer_new

abbrev pub Answers : List ℕ → Io → Result Tally ToolFault → Type 0
Answers text io (Ok tally) = Finishes text io tally
Answers text io (Err ToolFault.Memory) = Keeps io.writer_old io.writer_new
Answers text io (Err ToolFault.Write) = FailsToWrite text io
Answers text io (Err (ToolFault.Script n)) = IsFaulty text io n
Answers text io (Err ToolFault.Read) = ⊥
Answers text io (Err (ToolFault.BadHex n)) = ⊥
Answers text io (Err (ToolFault.Narrow n)) = ⊥
Answers text io (Err (ToolFault.Clean n why)) = ⊥
Answers text io (Err (ToolFault.NoContext why)) = ⊥
Answers text io (Err ToolFault.Net) = ⊥

-- ---- the trace of the moves is written before the report

-- what was written of the moves: over an honest wire all that is reported to an observer of them, and nothing else
pub record IsTraced (text : List ℕ) (io : Io) (report : Report) (trace : List ℕ) : Type 0 where
  pub ran : IsRun text io report
  pub traced : io.honest ≡ true → trace ≡ trace_text ran.script report

-- all of it was written, and all of the report
pub record FinishesTrace (text : List ℕ) (io : Io) (tally : Tally) : Type 0 where
  pub report : Report
  pub trace : List ℕ
  pub traced : IsTraced text io report trace
  pub wrote : Appends io.writer_old io.writer_new (trace ++ report_text report)
  pub counts : tally ≡ no_tally

-- a prefix of both was written
pub record FailsToTrace (text : List ℕ) (io : Io) : Type 0 where
  pub report : Report
  pub trace : List ℕ
  pub traced : IsTraced text io report trace
  pub wrote : AppendsFront io.writer_old io.writer_new (trace ++ report_text report)

abbrev pub AnswersTrace : List ℕ → Io → Result Tally ToolFault → Type 0
AnswersTrace text io (Ok tally) = FinishesTrace text io tally
AnswersTrace text io (Err ToolFault.Memory) = Keeps io.writer_old io.writer_new
AnswersTrace text io (Err ToolFault.Write) = FailsToTrace text io
AnswersTrace text io (Err (ToolFault.Script n)) = IsFaulty text io n
AnswersTrace text io (Err _) = ⊥

-- ---- a script in a file

-- the file had some text, and its script was run over a wire that is honest and had not failed
pub record IsOfText (writer_old writer_new : Option (List ℕ)) (outcome : Result Tally ToolFault) : Type 0 where
  pub text : List ℕ
  pub failures : ℕ
  pub answers : Answers text (record { honest = true; failed_old = 0; failed_new = failures; writer_old = writer_old; writer_new = writer_new }) outcome

-- an allocation failed, or the file couldn't be read
abbrev pub IsOfFile : ToolFault → Type 0
IsOfFile ToolFault.Memory = Unit {0}
IsOfFile ToolFault.Read = Unit {0}
IsOfFile _ = ⊥

-- an allocation failed, the file couldn't be read or has too many octets, or the listener couldn't be set up
abbrev pub IsOfSetUp : ToolFault → Type 0
IsOfSetUp ToolFault.Memory = Unit {0}
IsOfSetUp ToolFault.Read = Unit {0}
IsOfSetUp ToolFault.Net = Unit {0}
IsOfSetUp _ = ⊥

abbrev pub RunsFile : Option (List ℕ) → Option (List ℕ) → Result Tally ToolFault → Type 0
RunsFile writer_old writer_new outcome =
    IsOfText writer_old writer_new outcome ⊎ (((fault : ToolFault) × (outcome ≡ Err fault) × IsOfSetUp fault) × Keeps writer_old writer_new)

-- the same with the trace of the moves
pub record IsOfTextTraced (writer_old writer_new : Option (List ℕ)) (outcome : Result Tally ToolFault) : Type 0 where
  pub text : List ℕ
  pub failures : ℕ
  pub answers : AnswersTrace text (record { honest = true; failed_old = 0; failed_new = failures; writer_old = writer_old; writer_new = writer_new }) outcome

abbrev pub TracesFile : Option (List ℕ) → Option (List ℕ) → Result Tally ToolFault → Type 0
TracesFile writer_old writer_new outcome =
    IsOfTextTraced writer_old writer_new outcome ⊎ (((fault : ToolFault) × (outcome ≡ Err fault) × IsOfSetUp fault) × Keeps writer_old writer_new)
