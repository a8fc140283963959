use Rattle.bgp_words.proofs.Prelude.{◌≡◌, map, drop, has_octet, types_behind, types_of}
use Rattle.bgp_words.proofs.type_list.types_of.Given as goal

-- the types so far, with those of the words that are left, are those of the list
abbrev pub invariant-words : goal.invariant-words
invariant-words l = types_behind (has_octet l.types) (map (λ word. word.now) (drop l.word-index l.word-items)) ≡ types_of l.list
