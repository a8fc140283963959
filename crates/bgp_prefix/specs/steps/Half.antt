-- How half of an IPv6 address is printed.
use Rattle.std.specs.Prelude.{ℕ, List, ◌++◌, codes}
use Rattle.bgp_prefix.specs.declared.address.Group.{Group}
use Rattle.bgp_prefix.specs.declared.address.Half.{Half}
use Rattle.bgp_prefix.specs.Text.{hex_octet}

abbrev pub one_group : Group → List ℕ
one_group g = hex_octet g.0 ++ hex_octet g.1

abbrev pub half_text : Half → List ℕ
half_text h = one_group h.0 ++ (codes ":" ++ (one_group h.1 ++ (codes ":" ++ (one_group h.2 ++ (codes ":" ++ one_group h.3)))))
