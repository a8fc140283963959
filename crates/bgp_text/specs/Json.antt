-- Parts of JSON text (RFC 8259), without white space.
use Rattle.std.specs.Prelude.{ℕ, Bool, true, false, List, [], ◌∷◌, ◌++◌, codes}
use Rattle.bgp_text.specs.Below.{flat_map, hex_octet}
use Rattle.bgp_text.specs.Escape.{escaped_string}

-- a string of characters that need no escape
unfoldable pub quoted : List ℕ → List ℕ
quoted characters = codes "\"" ++ (characters ++ codes "\"")

-- octets as a string of lower case hexadecimal digits, two for each
unfoldable pub octets_json : List ℕ → List ℕ
octets_json octets = quoted (flat_map hex_octet octets)

abbrev pub boolean : Bool → List ℕ
boolean true = codes "true"
boolean false = codes "false"

-- the name of a further member of an object, between a comma and a colon
unfoldable pub named : List ℕ → List ℕ
named name = codes ",\"" ++ (name ++ codes "\":")

-- a further member of an object: its name and its value
abbrev pub member : {A : Type 0} → List ℕ → (A → List ℕ) → A → List ℕ
member name json value = named name ++ json value

abbrev pub behind_comma : {A : Type 0} → (A → List ℕ) → A → List ℕ
behind_comma json value = codes "," ++ json value

-- a further member that is a string, unless it is empty: of characters that need no escape
unfoldable pub where_named : List ℕ → List ℕ → List ℕ
where_named name [] = []
where_named name (c ∷ characters) = member name quoted (c ∷ characters)

-- the same for text from a peer
unfoldable pub where_said : List ℕ → List ℕ → List ℕ
where_said name [] = []
where_said name (c ∷ characters) = member name escaped_string (c ∷ characters)

-- values with commas between them
unfoldable pub joined : {A : Type 0} → (A → List ℕ) → List A → List ℕ
joined json [] = []
joined json (value ∷ values) = json value ++ flat_map (behind_comma json) values

abbrev pub listed : {A : Type 0} → (A → List ℕ) → List A → List ℕ
listed json values = codes "[" ++ (joined json values ++ codes "]")

-- the end of an object, and of its line
abbrev pub line_end : List ℕ
line_end = codes "}" ++ 10 ∷ []
