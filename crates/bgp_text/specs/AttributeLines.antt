-- The lines of attributes.
use Rattle.std.specs.Prelude.{ℕ, Bool, true, false, List, [], ◌∷◌, ◌++◌, codes}
use Rattle.bgp_text.specs.Below.{decimal, ipv4_address_text, Aggregator, Attr, Opaque, Origin}
use Rattle.bgp_text.specs.CommunityLines.{communities_line, large_line}
use Rattle.bgp_text.specs.Info.{info_text}
use Rattle.bgp_text.specs.Lines.{line_of}
use Rattle.bgp_text.specs.MpLines.{reach_lines, unreach_lines}
use Rattle.bgp_text.specs.PathLine.{path_line}

abbrev pub origin_name : Origin → List ℕ
origin_name Origin.Igp = codes "IGP"
origin_name Origin.Egp = codes "EGP"
origin_name Origin.Incomplete = codes "INCOMPLETE"

-- its AS number, and its address
abbrev pub aggregator_line : List ℕ → Aggregator → List ℕ
aggregator_line label a = label ++ (decimal a.asn.0 ++ (codes " " ++ (ipv4_address_text a.addr ++ 10 ∷ [])))

-- a letter for the Transitive bit and one for the Partial bit, where they are set, or a dash for neither
abbrev pub flags_text : Bool → Bool → List ℕ
flags_text false false = codes "-"
flags_text true false = codes "t"
flags_text false true = codes "p"
flags_text true true = codes "tp"

-- the type of an attribute that isn't recognised, its flags and its value
abbrev pub opaque_line : Opaque → List ℕ
opaque_line o = codes "  attr " ++ (decimal o.kind ++ (codes " " ++ (flags_text o.transitive o.partial ++ (codes " " ++ (info_text o.value ++ 10 ∷ [])))))

-- an attribute: one line, or several where it carries routes
unfoldable pub attribute_lines : Attr → List ℕ
attribute_lines (Attr.Origin o) = line_of (codes "  origin ") origin_name o
attribute_lines (Attr.AsPath p) = path_line (codes "  as_path") p
attribute_lines (Attr.NextHop addr) = line_of (codes "  next_hop ") ipv4_address_text addr
attribute_lines (Attr.Med n) = line_of (codes "  med ") decimal n
attribute_lines (Attr.LocalPref n) = line_of (codes "  local_pref ") decimal n
attribute_lines Attr.Atomic = codes "  atomic" ++ 10 ∷ []
attribute_lines (Attr.Aggregator a) = aggregator_line (codes "  aggregator ") a
attribute_lines (Attr.Communities c) = communities_line c.values
attribute_lines (Attr.MpReach r) = reach_lines r
attribute_lines (Attr.MpUnreach r) = unreach_lines r
attribute_lines (Attr.As4Path p) = path_line (codes "  as4_path") p.path
attribute_lines (Attr.As4Aggregator a) = aggregator_line (codes "  as4_aggregator ") a
attribute_lines (Attr.Large c) = large_line c.values
attribute_lines (Attr.Opaque o) = opaque_line o
