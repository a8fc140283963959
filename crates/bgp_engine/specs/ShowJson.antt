-- What `show --json` prints.
use Rattle.bgp_engine.specs.Below.{Agreed, Context, end_json, outcome_json, refresh_json}
use Rattle.bgp_text.specs.JsonPaths.{path_outcome_json}
use Rattle.bgp_paths.specs.Prelude.{path_families}
use Rattle.bgp_engine.specs.Rules.{IsReport}
use Rattle.bgp_engine.specs.Run.{Reports}
use Rattle.bgp_engine.specs.Show.{path_rules, printed_rules}
use Rattle.bgp_engine.specs.Tally.{no_tally}
use Rattle.bgp_engine.specs.Wide.{wide_rules}

-- as `show`, but each outcome and the end are a line of JSON
abbrev pub ShownJson : Context → Reports
ShownJson ctx = IsReport (printed_rules outcome_json refresh_json end_json ctx) 0 no_tally

-- the same where ROUTE-REFRESH and path identifiers may be agreed on
abbrev pub ShownJsonUnder : Agreed → Reports
ShownJsonUnder terms = IsReport (wide_rules terms.refresh (path_rules outcome_json path_outcome_json refresh_json end_json (path_families terms) terms.context)) 0 no_tally
