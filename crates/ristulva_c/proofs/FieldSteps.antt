-- Fields in the caller's list.
use Rattle.ristulva_c.proofs.Below.{◌≡◌, ℕ, true, false, nat_le, ◌+◌, ◌≤◌, List, [], ◌∷◌, ◌++◌, length, map, drop, refl, sym, ap, ◌∙◌, arith, length-map, Context, Field, fields_of, Tiles}
use Rattle.bgp_fields.proofs.Joined.{fields-octets}
use Rattle.ristulva_c.specs.declared.fields.ToldField.{ToldField}
use Rattle.ristulva_c.specs.declared.status.TheConstants.{OK, ROOM}
use Rattle.ristulva_c.specs.Prelude.{field_told, IsFilled}

-- ---- their number

tiles_count : (from to : ℕ) (fs : List Field) → Tiles from to fs → from + length fs ≤ to
tiles_count from to [] t = omega (arith, t)
tiles_count from to (f ∷ fs) t = omega (arith, t.0, t.1, tiles_count (f.at + f.len) to fs t.2)

-- each has an octet at least
pub few_fields : (ctx : Context) (octets : List ℕ) → length (fields_of ctx octets) ≤ length octets
few_fields ctx octets = omega (arith, tiles_count 0 (length octets) (fields_of ctx octets) (fields-octets ctx octets).placed)

-- ---- all or none

-- where there is too little room nothing is written
pub none_filled : (fs : List Field) (places : List ToldField) (n : ℕ) → nat_le (length fs) (length places) ≡ false → length fs ≤ 4096
    → IsFilled (map field_told fs) (record { status = ROOM; before = places; behind = places; written_before = n; written_behind = n })
none_filled fs places n full few =
    let none : nat_le (length (map field_told fs)) (length places) ≡ false = rw (length-map fs field_told) full in
    record { status = rw none refl; list = rw none refl; written = rw none refl; few = omega (arith, length-map fs field_told, few) }

pub all_filled : (fs : List Field) (places behind : List ToldField) (before written : ℕ) → nat_le (length fs) (length places) ≡ true → length fs ≤ 4096
    → behind ≡ map field_told fs ++ drop (length fs) places → written ≡ length fs
    → IsFilled (map field_told fs) (record { status = OK; before = places; behind = behind; written_before = before; written_behind = written })
all_filled fs places behind before written fits few is counted =
    let same : length (map field_told fs) ≡ length fs = length-map fs field_told in
    let all : nat_le (length (map field_told fs)) (length places) ≡ true = rw same fits in
    record {
      status = rw all refl;
      list = rw all (is ∙ ap (λ (n : ℕ). map field_told fs ++ drop n places) (sym same));
      written = rw all (counted ∙ sym same);
      few = omega (arith, same, few);
    }
