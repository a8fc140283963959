-- What `check` prints.
use Rattle.std.specs.Prelude.{ℕ, List, [], ◌∷◌, ◌++◌, codes, Ok}
use Rattle.bgp_engine.specs.Below.{Agreed, Context, Outcome, stream_rules, end_line, plain}
use Rattle.std.specs.Fmt.{decimal}
use Rattle.bgp_engine.specs.declared.tally.Tally.{Tally}
use Rattle.bgp_paths.specs.declared.families.PathFamilies.{PathFamilies}
use Rattle.bgp_paths.specs.Prelude.{path_families}
use Rattle.bgp_engine.specs.Identified.{judged_by}
use Rattle.bgp_engine.specs.Rules.{Rules, IsReport}
use Rattle.bgp_engine.specs.Run.{Reports}
use Rattle.bgp_engine.specs.Show.{class_of}
use Rattle.bgp_engine.specs.Refreshed.{unwritten}
use Rattle.bgp_engine.specs.Tally.{no_tally}
use Rattle.bgp_engine.specs.Wide.{wide_rules}

-- the counts in one line
abbrev pub counts_line : Tally → List ℕ
counts_line t =
    codes "messages " ++ (decimal t.messages ++ (codes " took " ++ (decimal t.took ++ (codes " withdraw " ++ (decimal t.withdrawn ++ (codes " reset " ++ (decimal t.resets ++ 10 ∷ [])))))))

-- no line of a message: the counts, and the line of the end
abbrev pub check_rules : Context → Rules Outcome
check_rules ctx = record {
  types = plain;
  judge = stream_rules ctx;
  line = λ _ _ _ _. [];
  refresh = unwritten;
  class = class_of;
  last = λ tally. counts_line tally ++ end_line tally.end;
  rest = λ _. [];
  answer = λ tally _. Ok tally;
}

-- the same where routes may have path identifiers
abbrev pub check_path_rules : PathFamilies → Context → Rules Outcome
check_path_rules f ctx = record (check_rules ctx) { judge = judged_by f ctx }

abbrev pub Checked : Context → Reports
Checked ctx = IsReport (check_rules ctx) 0 no_tally

-- the same where ROUTE-REFRESH and path identifiers may be agreed on
abbrev pub CheckedUnder : Agreed → Reports
CheckedUnder terms = IsReport (wide_rules terms.refresh (check_path_rules (path_families terms) terms.context)) 0 no_tally
