use Rattle.bgp_text.proofs.Prelude.{◌≡◌, ◌++◌, IsUtf8, chars, string_bytes, flat_map}
use Rattle.std.specs.Str.Iter.{chars_rest}
use Rattle.bgp_text.specs.Escape.{escaped}
use Rattle.bgp_text.proofs.escape.put_characters.Given as goal

abbrev pub invariant-loop-c : goal.invariant-loop-c
invariant-loop-c l = IsUtf8 (chars_rest l.c-iterator)
    × (string_bytes l.text ++ flat_map escaped (chars (chars_rest l.c-iterator)) ≡ string_bytes l.fn.text ++ flat_map escaped (chars l.fn.told))
