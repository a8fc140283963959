-- Steps of an engine: its report on octets, and how it continues after them.
use Rattle.std.specs.Prelude.{◌≡◌, ℕ, Bool, true, false, List, [], ◌++◌, Result, Ok, Err}
use Rattle.bgp_engine.specs.Below.{AreOctets}
use Rattle.bgp_engine.specs.declared.tally.Tally.{Tally}
use Rattle.bgp_engine.specs.declared.fault.ToolFault.{ToolFault}
use Rattle.bgp_engine.specs.Report.{Report, behind, IsOver, IsWaiting, IsWordless}
use Rattle.bgp_engine.specs.Run.{Reports}

-- these reports, of streams of octets
abbrev pub OfOctets : Reports → Reports
OfOctets reports stream r = AreOctets stream × reports stream r

-- whatever follows the octets, the report of the stream from old on is the lines and then the report from new on
abbrev pub GoesOn : Reports → List ℕ → List ℕ → Reports → Type 0
GoesOn old octets lines new = (later : List ℕ) (r : Report) → new later r → old (octets ++ later) (behind lines r)

-- the stream may continue: if it doesn't, no more lines are written
pub record Rests (reports : Reports) : Type 0 where
  pub report : Report
  pub reported : reports [] report
  pub none : report.lines ≡ []
  pub waiting : IsWaiting report.end_of

-- the stream is over, whatever follows
pub record IsFinal (reports : Reports) : Type 0 where
  pub report : Report
  pub reported : reports [] report
  pub none : report.lines ≡ []
  pub over : (r : Report) → reports [] r → IsOver r.end_of
  pub always : (later more : List ℕ) (r : Report) → reports later r → reports more r

abbrev pub Stands : Bool → Type 0 → Reports → Type 0
Stands false going reports = going × Rests reports
Stands true going reports = IsFinal reports

-- octets were processed, and what is written for them was collected
pub record Takes (old new : Reports) (going : Type 0) (told_old told_new octets : List ℕ) (over : Bool) : Type 0 where
  pub lines : List ℕ
  pub told : told_new ≡ told_old ++ lines
  pub goes_on : GoesOn old octets lines new
  pub stands : Stands over going new

-- each stream of octets has a report
abbrev pub IsTotal : Reports → Type 0
IsTotal reports = (later : List ℕ) → AreOctets later → (r : Report) × reports later r

-- what is still written was collected, and this is the answer
abbrev pub ClosesBy : Report → List ℕ → List ℕ → Result Tally ToolFault → Type 0
ClosesBy report told_old told_new (Ok tally) = (told_new ≡ told_old ++ (report.lines ++ report.last)) × (report.answer ≡ Ok tally)
ClosesBy report told_old told_new (Err ToolFault.Memory) = Unit {0}
ClosesBy report told_old told_new (Err ToolFault.Read) = ⊥
ClosesBy report told_old told_new (Err ToolFault.Write) = ⊥
ClosesBy report told_old told_new (Err (ToolFault.BadHex n)) = ⊥
ClosesBy report told_old told_new (Err (ToolFault.Script n)) = ⊥
ClosesBy report told_old told_new (Err ToolFault.Net) = ⊥
ClosesBy report told_old told_new (Err (ToolFault.Narrow n)) = (told_new ≡ told_old ++ (report.lines ++ report.last)) × (report.answer ≡ Err (ToolFault.Narrow n))
ClosesBy report told_old told_new (Err (ToolFault.Clean n why)) = IsWordless why × (told_new ≡ told_old ++ (report.lines ++ report.last)) × (report.answer ≡ Err (ToolFault.Clean n why))
ClosesBy report told_old told_new (Err (ToolFault.NoContext why)) = (told_new ≡ told_old ++ (report.lines ++ report.last)) × (report.answer ≡ Err (ToolFault.NoContext why))

-- the stream ends
pub record Closes (reports : Reports) (told_old told_new : List ℕ) (answer : Result Tally ToolFault) : Type 0 where
  pub report : Report
  pub reported : reports [] report
  pub closes : ClosesBy report told_old told_new answer
