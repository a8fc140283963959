-- Lists of attribute types that aren't recognised, as `16,35`.
use Rattle.std.specs.Prelude.{ℕ, Bool, not, ◌&&◌, ◌==◌, nat_le, nat_lt, List, [], ◌∷◌, length, Option, Some}
use Rattle.std.specs.List.{slice_split}
use Rattle.std.specs.Str.{all_ascii_digits}
use Rattle.std.specs.Str.Parse.{digits_value}
use Rattle.clap.specs.Words.{Text}
use Rattle.bgp_attr.specs.Prelude.{is_recognised}
use Rattle.bgp_wire.specs.Prelude.{also, none_of_them, ◌>>=◌, when}

-- the words between commas: one more than there are commas
abbrev pub words_of : Text → List Text
words_of list = slice_split (λ c. c == 44) list

-- the number of one or more decimal digits, if it is at most 255. Leading zeros are allowed
abbrev pub octet_of : Text → Option ℕ
octet_of word = when (nat_lt 0 (length word) && (all_ascii_digits word && nat_le (digits_value 10 word) 255)) (digits_value 10 word)

-- the type that a word names, if that isn't recognised
abbrev pub type_of : Text → Option ℕ
type_of word = do
  kind ← octet_of word
  when (not (is_recognised kind)) kind

-- a set with the types of these words too; None if a word names no such type
abbrev pub types_behind : (ℕ → Bool) → List Text → Option (ℕ → Bool)
types_behind types [] = Some types
types_behind types (word ∷ words) = do
  kind ← type_of word
  types_behind (also kind types) words

-- the types of a list, which may repeat; None if the list is faulty
abbrev pub types_of : Text → Option (ℕ → Bool)
types_of list = types_behind none_of_them (words_of list)

-- a type that isn't recognised, and none of these
abbrev pub is_other : (ℕ → Bool) → ℕ → Bool
is_other types kind = not (is_recognised kind) && not (types kind)

-- every type that isn't recognised, except these
abbrev pub all_but : (ℕ → Bool) → ℕ → Bool
all_but types = λ kind. nat_lt kind 256 && is_other types kind
