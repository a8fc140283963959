use Rattle.std.proofs.Common.{◌≡◌, ◌≤◌, drop}
use Rattle.bgp_script.specs.Number.{digits_behind, at_most, number_up_to}
use Rattle.bgp_script.proofs.number.read_number.Given as goal

abbrev pub invariant-digits : goal.invariant-digits
invariant-digits l = record {
  so_far : at_most l.most (digits_behind l.number (drop l.octet-index l.word)) ≡ number_up_to l.most l.word;
  small : l.number ≤ l.most;
}
