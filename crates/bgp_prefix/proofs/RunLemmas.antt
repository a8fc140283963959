-- Which fault a run has, and that what is written is a row. The loops over a run, prefix by prefix, are in `Rattle.bgp_wire.proofs.Walks`.
use Rattle.bgp_wire.proofs.Std.{◌≡◌, ℕ, ◌*◌, Bool, true, false, cond, ltb, List, [], ◌∷◌, Some, None, Err, refl, sym, ap, flat_map, slice_get, AllByRecursion}
use Rattle.bgp_wire.specs.Prelude.{Row}
use Rattle.bgp_prefix.specs.declared.fault.RunFault.{RunFault}
use Rattle.bgp_prefix.specs.declared.fault.RunFault.TheVariants.{TooLong, PastEnd, Memory}
use Rattle.bgp_prefix.specs.Prelude.{PrefixValue, IsValid, IsPrefix, spelling_of, run_of, fault_at, run_fault, IsReading}
use Rattle.bgp_prefix.proofs.PrefixLemmas.{IsPrefix-spelling_of}

-- ---- reading

-- only the two faults of octets are faults of the rest
is_fault : (width : ℕ) (octets : List ℕ) (t : Bool) (fault : RunFault) → fault ≡ cond t TooLong PastEnd → run_fault width (run_of width octets).1 ≡ Some (cond t TooLong PastEnd) → IsReading width octets (Err fault)
is_fault width octets true TooLong e r = r
is_fault width octets true PastEnd e r = absurd cc
is_fault width octets true Memory e r = absurd cc
is_fault width octets false TooLong e r = absurd cc
is_fault width octets false PastEnd e r = r
is_fault width octets false Memory e r = absurd cc

pub reading_fault : (width : ℕ) (octets : List ℕ) (ps : List PrefixValue) (l : ℕ) (rest : List ℕ) (fault : RunFault) → run_of width octets ≡ (ps, l ∷ rest) → fault ≡ fault_at width l → IsReading width octets (Err fault)
reading_fault width octets ps l rest fault e is = is_fault width octets (ltb (8 * width) l) fault is (ap (λ (q : List PrefixValue × List ℕ). run_fault width q.1) e)

-- octets without a first one, and with one
pub none_first : (b : List ℕ) → None ≡ slice_get b 0 → b ≡ []
none_first [] e = refl
none_first (x ∷ b) e = absurd cc

pub some_first : (b : List ℕ) (l : ℕ) → Some l ≡ slice_get b 0 → (rest : List ℕ) × (b ≡ l ∷ rest)
some_first [] l e = absurd cc
some_first (x ∷ b) l e = let same : l ≡ x = cc in (b, ap (λ (y : ℕ). y ∷ b) (sym same))

-- ---- writing

-- the octets of prefixes are a row of them
pub Row-prefixes : (width : ℕ) (ps : List PrefixValue) → AllByRecursion (IsValid width) ps → Row (IsPrefix width) ps (flat_map spelling_of ps)
Row-prefixes width [] valid = refl
Row-prefixes width (p ∷ ps) valid = (spelling_of p, flat_map spelling_of ps, refl, IsPrefix-spelling_of width p valid.0, Row-prefixes width ps valid.1)
