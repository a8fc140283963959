-- The object of a ROUTE-REFRESH.
use Rattle.std.specs.Prelude.{ℕ, List, ◌++◌, codes}
use Rattle.bgp_text.specs.Below.{decimal, Refresh, subtype_of}
use Rattle.bgp_text.specs.Json.{member, line_end}
use Rattle.bgp_text.specs.JsonOutcome.{judged}

-- its family and its subtype, after what each object begins with
abbrev pub refresh_members : ℕ → ℕ → Refresh → List ℕ
refresh_members place len r =
    judged place len (codes "ROUTE-REFRESH") (codes "take") ++ (member (codes "afi") decimal r.afi ++ (member (codes "safi") decimal r.safi
    ++ member (codes "subtype") decimal (subtype_of r.mark)))

abbrev pub refresh_json : ℕ → ℕ → Refresh → List ℕ
refresh_json place len r = refresh_members place len r ++ line_end
