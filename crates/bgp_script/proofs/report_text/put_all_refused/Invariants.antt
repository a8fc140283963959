use Rattle.bgp_wire.proofs.Std.{◌≡◌, ◌++◌, take, flat_map}
use Rattle.std.specs.String.{string_bytes}
use Rattle.bgp_script.specs.ReportText.{refused_line}
use Rattle.bgp_script.proofs.report_text.put_all_refused.Given as goal

-- the lines so far are those of the UPDATEs so far
abbrev pub invariant-refused : goal.invariant-refused
invariant-refused l = string_bytes l.text ≡ string_bytes l.initial.text ++ flat_map refused_line (take l.one-index l.refused)
