-- What `show` prints.
use Rattle.bgp_engine.specs.Below.{ℕ, List, [], Option, Ok, Agreed, End, Context, Outcome, Refresh, Span, end_line, plain, refresh_line}
use Rattle.bgp_text.specs.Outcome.{outcome_lines}
use Rattle.bgp_text.specs.PathLines.{path_lines}
use Rattle.bgp_paths.specs.declared.families.PathFamilies.{PathFamilies}
use Rattle.bgp_paths.specs.Prelude.{path_families}
use Rattle.bgp_engine.specs.declared.class.Class.{Class}
use Rattle.bgp_engine.specs.Heard.{Heard, heard_in, place_in}
use Rattle.bgp_engine.specs.Identified.{Showing, heard_by, line_by}
use Rattle.bgp_engine.specs.Rules.{Rules, IsReport}
use Rattle.bgp_engine.specs.Run.{Reports}
use Rattle.bgp_engine.specs.Refreshed.{refresh_shown}
use Rattle.bgp_engine.specs.Tally.{no_tally}
use Rattle.bgp_engine.specs.Wide.{wide_rules}

-- what an outcome counts as
abbrev pub class_of : Outcome → Class
class_of (Outcome.Took m notes) = Class.Took
class_of (Outcome.Withdraw routes notes) = Class.Withdrawn
class_of (Outcome.Reset n) = Class.Reset

-- the text of each outcome, with the octets for which it is a reset, that of a ROUTE-REFRESH, and after them that of the end
abbrev pub printed_rules : (ℕ → ℕ → Option Span → Outcome → List ℕ) → (ℕ → ℕ → Refresh → List ℕ) → (End → List ℕ) → Context → Rules Heard
printed_rules shown shown_refresh shown_end ctx = record {
  types = plain;
  judge = heard_in ctx;
  line = λ place len octets h. shown place len (place_in ctx octets h.front) h.outcome;
  refresh = refresh_shown shown shown_refresh;
  class = λ h. class_of h.outcome;
  last = λ tally. shown_end tally.end;
  rest = λ _. [];
  answer = λ tally _. Ok tally;
}

-- the same where routes may have path identifiers
abbrev pub path_rules : (ℕ → ℕ → Option Span → Outcome → List ℕ) → Showing → (ℕ → ℕ → Refresh → List ℕ) → (End → List ℕ) → PathFamilies → Context → Rules Heard
path_rules shown with_paths shown_refresh shown_end f ctx = record (printed_rules shown shown_refresh shown_end ctx) {
  judge = heard_by f ctx;
  line = line_by shown with_paths f ctx;
}

-- in lines of text
abbrev pub shown_lines : ℕ → ℕ → Option Span → Outcome → List ℕ
shown_lines place len span o = outcome_lines place len o

abbrev pub Shown : Context → Reports
Shown ctx = IsReport (printed_rules shown_lines refresh_line end_line ctx) 0 no_tally

-- the same where ROUTE-REFRESH and path identifiers may be agreed on
abbrev pub ShownUnder : Agreed → Reports
ShownUnder terms = IsReport (wide_rules terms.refresh (path_rules shown_lines path_lines refresh_line end_line (path_families terms) terms.context)) 0 no_tally
