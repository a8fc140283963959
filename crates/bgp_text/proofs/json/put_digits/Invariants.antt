use Rattle.bgp_text.proofs.Prelude.{◌≡◌, ◌++◌, take, flat_map, string_bytes, hex_octet}
use Rattle.bgp_text.proofs.json.put_digits.Given as goal

-- the text so far has the digits of the octets so far
abbrev pub invariant-loop-octet : goal.invariant-loop-octet
invariant-loop-octet l = string_bytes l.text ≡ string_bytes l.initial.text ++ flat_map hex_octet (take l.octet-index l.octets)
