-- The line of a stream's end.
use Rattle.std.specs.Prelude.{List, ℕ, [], ◌∷◌, ◌++◌, codes}
use Rattle.bgp_text.specs.Below.{decimal, End}

-- the session was reset by a message or by a header's fault, or the stream ended, with n octets of an incomplete message
abbrev pub end_line : End → List ℕ
end_line End.Reset = codes "end reset" ++ 10 ∷ []
end_line End.Head = codes "end head" ++ 10 ∷ []
end_line (End.Wait n) = codes "end wait " ++ (decimal n ++ 10 ∷ [])
