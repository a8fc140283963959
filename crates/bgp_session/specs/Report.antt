-- The report of a schedule.
use Rattle.std.specs.Prelude.{◌≡◌, Bool, List, ◌++◌}
use Rattle.bgp_open.specs.Prelude.{Settings}
use Rattle.bgp_session.specs.declared.moves.Move.{Move}
use Rattle.bgp_session.specs.declared.report.Report.{Report}
use Rattle.bgp_session.specs.Sight.{Sight}
use Rattle.bgp_session.specs.Wire.{Call}
use Rattle.bgp_session.specs.World.{World, begins, rounds_of, Turn, calls_in, sights_in, ran, behind, all_moved}

-- the report of a world, for these answers of the wire
abbrev pub report_of : World → List Bool → Report
report_of w answers = record {
  rounds = rounds_of w;
  refused = w.refused;
  states = (w.a.session.standing.state, w.b.session.standing.state);
  answers = answers;
}

-- the report is that of the world that these moves make of two new sessions. They used up its answers, one for each call of the
-- wire, and no more: any later answers are left over
pub record IsReported (a b : Settings) (moves : List Move) (report : Report) : Type 0 where
  pub world : World
  pub turns : List Turn
  pub moved_so : (later : List Bool) → all_moved moves (begins a b) (report.answers ++ later) ≡ behind turns (ran world later)
  pub reports : report ≡ report_of world report.answers

-- the calls that these moves make of a wire that gives these answers
abbrev pub calls_behind : Settings → Settings → List Move → List Bool → List Call
calls_behind a b moves answers = calls_in (all_moved moves (begins a b) answers).turns

-- what is reported to an observer of these moves, where a wire gives these answers
abbrev pub sights_behind : Settings → Settings → List Move → List Bool → List Sight
sights_behind a b moves answers = sights_in (all_moved moves (begins a b) answers).turns
