-- The lines of an UPDATE, and of routes that are withdrawn.
use Rattle.std.specs.Prelude.{ℕ, List, ◌++◌, codes}
use Rattle.bgp_text.specs.Below.{flat_map, ipv4_text, ipv6_text, Routes, Update}
use Rattle.bgp_text.specs.AttributeLines.{attribute_lines, opaque_line}
use Rattle.bgp_text.specs.Lines.{line_of}
use Rattle.bgp_text.specs.Members.{Shown, printed}

-- how each member of an UPDATE is printed: a line for each route, and for each attribute that isn't recognised
abbrev pub in_lines : Shown
in_lines = record {
  withdrawn = flat_map (line_of (codes "  withdrawn ") ipv4_text);
  attribute = attribute_lines;
  others = flat_map opaque_line;
  nlri = flat_map (line_of (codes "  nlri ") ipv4_text);
}

abbrev pub update_lines : Update → List ℕ
update_lines u = printed in_lines u

-- a line for each route, IPv4 first
abbrev pub routes_lines : Routes → List ℕ
routes_lines r = flat_map (line_of (codes "  route ") ipv4_text) r.ip4 ++ flat_map (line_of (codes "  route ") ipv6_text) r.ip6
