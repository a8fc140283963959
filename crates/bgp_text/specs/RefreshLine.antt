-- The line of a ROUTE-REFRESH.
use Rattle.std.specs.Prelude.{ℕ, List, [], ◌∷◌, ◌++◌, codes}
use Rattle.bgp_text.specs.Below.{decimal, Refresh, RefreshMark}

-- what it is for: a request for routes, the beginning or the end of a refresh, or another subtype, which has no effect
abbrev pub mark_text : RefreshMark → List ℕ
mark_text RefreshMark.Request = codes "request"
mark_text RefreshMark.Begin = codes "begin"
mark_text RefreshMark.End = codes "end"
mark_text (RefreshMark.Ignored subtype) = codes "ignored " ++ decimal subtype

-- its offset in the stream, its length, what it is for, and its family
abbrev pub refresh_line : ℕ → ℕ → Refresh → List ℕ
refresh_line place len r =
    decimal place ++ (codes " " ++ (decimal len ++ (codes " ROUTE-REFRESH " ++ (mark_text r.mark ++ (codes " " ++ (decimal r.afi ++ (codes " "
    ++ (decimal r.safi ++ 10 ∷ []))))))))
