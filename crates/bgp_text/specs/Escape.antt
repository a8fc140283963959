-- Text from a peer, as a string that is safe for a terminal and for a reader of JSON.
use Rattle.std.specs.Prelude.{ℕ, ◌==◌, List, ◌++◌, codes, if◌then◌else◌}
use Rattle.bgp_text.specs.Below.{flat_map, chars, encode_utf8, is_control, hex_octet}

-- a character as RFC 8259, section 7, has it: a quotation mark and a backslash after a backslash, a control character by its number
abbrev pub escaped : ℕ → List ℕ
escaped c =
    if c == 34 then codes "\\\"" else (
    if c == 92 then codes "\\\\" else (
    if is_control c then codes "\\u00" ++ hex_octet c else
    encode_utf8 c))

-- text in UTF-8 as a string in quotation marks
unfoldable pub escaped_string : List ℕ → List ℕ
escaped_string text = codes "\"" ++ (flat_map escaped (chars text) ++ codes "\"")
