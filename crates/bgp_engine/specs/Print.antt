-- What is printed of a stream, in each style.
use Rattle.bgp_engine.specs.Below.{Agreed, Bool, true, false, List, Context, ℕ, end_line, end_json, outcome_json, refresh_json, refresh_line}
use Rattle.bgp_engine.specs.declared.printing.Style.{Style}
use Rattle.bgp_engine.specs.Agree.{any_terms}
use Rattle.bgp_engine.specs.Explain.{Explained, ExplainedUnder, in_json, in_lines}
use Rattle.bgp_engine.specs.Heard.{Heard}
use Rattle.bgp_engine.specs.Identified.{where_faulty}
use Rattle.bgp_paths.specs.Prelude.{path_families}
use Rattle.bgp_text.specs.JsonPaths.{path_outcome_json}
use Rattle.bgp_text.specs.PathLines.{path_lines}
use Rattle.bgp_engine.specs.OnlyFaults.{chosen, where_fault}
use Rattle.bgp_engine.specs.Opens.{ReportedBy}
use Rattle.bgp_engine.specs.Refreshed.{where_ignored}
use Rattle.bgp_engine.specs.Rules.{IsReport, Rules}
use Rattle.bgp_engine.specs.Run.{Reports}
use Rattle.bgp_engine.specs.Show.{Shown, ShownUnder, path_rules, printed_rules, shown_lines}
use Rattle.bgp_engine.specs.ShowJson.{ShownJson, ShownJsonUnder}
use Rattle.bgp_engine.specs.Tally.{no_tally}
use Rattle.bgp_engine.specs.Wide.{wide_rules}

-- lines of text, and of JSON, of messages that aren't accepted without a note, and of NOTIFICATIONs
abbrev pub faulty_lines : Context → Rules Heard
faulty_lines = printed_rules (where_fault shown_lines) (where_ignored refresh_line) end_line

abbrev pub faulty_json : Context → Rules Heard
faulty_json = printed_rules (where_fault outcome_json) (where_ignored refresh_json) end_json

-- the same where routes may have path identifiers
abbrev pub faulty_path_lines : Agreed → Rules Heard
faulty_path_lines terms = path_rules (where_fault shown_lines) (where_faulty path_lines) (where_ignored refresh_line) end_line (path_families terms) terms.context

abbrev pub faulty_path_json : Agreed → Rules Heard
faulty_path_json terms = path_rules (where_fault outcome_json) (where_faulty path_outcome_json) (where_ignored refresh_json) end_json (path_families terms) terms.context

-- what is printed of a stream in a style: of all messages, or only of those that aren't accepted without a note and of NOTIFICATIONs
abbrev pub Printed : Style → Bool → Context → Reports
Printed Style.Lines false = Shown
Printed Style.Lines true = λ ctx. IsReport (faulty_lines ctx) 0 no_tally
Printed Style.Json false = ShownJson
Printed Style.Json true = λ ctx. IsReport (faulty_json ctx) 0 no_tally
Printed Style.Explained only_faults = Explained in_lines (chosen only_faults)
Printed Style.ExplainedJson only_faults = Explained in_json (chosen only_faults)

-- the same where ROUTE-REFRESH and path identifiers may be agreed on
abbrev pub PrintedUnder : Style → Bool → Agreed → Reports
PrintedUnder Style.Lines false = ShownUnder
PrintedUnder Style.Lines true = λ terms. IsReport (wide_rules terms.refresh (faulty_path_lines terms)) 0 no_tally
PrintedUnder Style.Json false = ShownJsonUnder
PrintedUnder Style.Json true = λ terms. IsReport (wide_rules terms.refresh (faulty_path_json terms)) 0 no_tally
PrintedUnder Style.Explained only_faults = ExplainedUnder in_lines (chosen only_faults)
PrintedUnder Style.ExplainedJson only_faults = ExplainedUnder in_json (chosen only_faults)

-- by what both OPENs agree on
abbrev pub PrintedBy : Style → Bool → List ℕ → Reports
PrintedBy style only_faults theirs = ReportedBy any_terms theirs (PrintedUnder style only_faults)
