-- Sets of octets, as tests: bit k of the words is octet k.
use Rattle.std.specs.Prelude.{ℕ, ◌/◌, ◌%◌, Bool, false, not, ◌&&◌, ◌==◌, ◌||◌, nat_lt}
use Rattle.std.specs.Int.{bit_at}
use Rattle.std.specs.List.{slice_index_or}
use Rattle.bgp_wire.specs.declared.octet_set.OctetSet.{OctetSet}

-- whether an octet is in the set
abbrev pub has_octet : OctetSet → ℕ → Bool
has_octet s = λ octet. bit_at (slice_index_or s.words (octet / 64) 0) (octet % 64) == 1

-- the empty set
abbrev pub none_of_them : ℕ → Bool
none_of_them octet = false

-- the set with one octet more
abbrev pub also : ℕ → (ℕ → Bool) → ℕ → Bool
also octet set = λ k. (k == octet) || set k

-- every octet but these
abbrev pub all_but : (ℕ → Bool) → ℕ → Bool
all_but set = λ octet. nat_lt octet 256 && not (set octet)
