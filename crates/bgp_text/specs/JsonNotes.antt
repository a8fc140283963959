-- Notes as JSON.
use Rattle.std.specs.Prelude.{ℕ, List, ◌++◌, codes}
use Rattle.bgp_text.specs.Below.{decimal, Why, Note, attribute_name}
use Rattle.bgp_text.specs.Json.{quoted, member, listed, where_named}
use Rattle.bgp_text.specs.NoteLines.{why_name}

abbrev pub why_json : Why → List ℕ
why_json w = quoted (why_name w)

-- the offset of an attribute in the body, its type, its name, and why it isn't kept
unfoldable pub note_json_at : ℕ → Note → List ℕ
note_json_at at n =
    codes "{\"at\":" ++ (decimal at ++ (member (codes "type") decimal n.kind ++ (where_named (codes "name") (attribute_name n.kind)
    ++ (member (codes "why") why_json n.why ++ codes "}"))))

abbrev pub note_json : Note → List ℕ
note_json n = note_json_at n.at n

abbrev pub notes_member : List Note → List ℕ
notes_member notes = member (codes "notes") (listed note_json) notes
