use Rattle.bgp_wire.proofs.Std.{◌≡◌, ◌+◌, ◌++◌, drop}
use Rattle.std.specs.String.{string_bytes}
use Rattle.bgp_script.specs.ReportText.{rounds_from}
use Rattle.bgp_script.proofs.report_text.put_rounds.Given as goal

-- the text and the lines of the rounds that are left are the whole
abbrev pub invariant-rounds : goal.invariant-rounds
invariant-rounds l = string_bytes l.text ++ rounds_from (l.index + 1) (drop l.index l.rounds) ≡ string_bytes l.initial.text ++ rounds_from 1 l.rounds
