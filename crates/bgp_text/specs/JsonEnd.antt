-- The object of a stream's end.
use Rattle.std.specs.Prelude.{List, ℕ, ◌++◌, codes}
use Rattle.bgp_text.specs.Below.{decimal, End}
use Rattle.bgp_text.specs.Json.{quoted, member, line_end}

-- the beginning of the object: its kind, and the word for how the stream ended
unfoldable pub ended : List ℕ → List ℕ
ended word = codes "{\"kind\":" ++ (quoted (codes "END") ++ member (codes "end") quoted word)

-- the session was reset by a message or by a header's fault, or the stream ended, with n octets of an incomplete message
abbrev pub end_json : End → List ℕ
end_json End.Reset = ended (codes "reset") ++ line_end
end_json End.Head = ended (codes "head") ++ line_end
end_json (End.Wait n) = ended (codes "wait") ++ (member (codes "octets") decimal n ++ line_end)
