-- Octets written in parts, of which one may have no room.
use Rattle.bgp_wire.proofs.Std.{◌≡◌, ℕ, ◌+◌, ◌<◌, ◌≤◌, List, [], ◌∷◌, ◌++◌, length, get_or, take, flat_map, refl, sym, ap, ap₂, ◌∙◌, append_assoc, Bool, true, false, false≢true, Result, Ok, Err, OnErr, on_err_weaker, arith, take-append_seam, w16, to_be_bytes}
use Rattle.std.specs.Prelude.{OnOk, is_err}
use Rattle.std.proofs.lemmas.Bool.{true≢false}
use Rattle.std.proofs.lemmas.List.{length-append}
use Rattle.bgp_numbers.specs.declared.safi.TheConstants.{UNICAST}
use Rattle.bgp_wire.specs.Prelude.{Extends}
use Rattle.bgp_wire.proofs.Rooms.{extends_more}
use Rattle.bgp_wire.proofs.Writes.{IsWritten, some_written, one_lacks}
use Rattle.bgp_prefix.specs.Prelude.{PrefixValue}
use Rattle.bgp_attr.specs.Prelude.{reach_row, run_octets}

pub on_refusal : {T E P : Type 0} (r : Result T E) → P → OnErr r P
on_refusal (Ok x) p = tt
on_refusal (Err e) p = p

-- two parts are one
pub part_written : (old front part whole now new : List ℕ) → front ++ part ≡ whole → now ≡ old ++ front → new ≡ now ++ part → new ≡ old ++ whole
part_written old front part whole now new is e f = f ∙ ap (λ (b : List ℕ). b ++ part) e ∙ append_assoc old front part ∙ ap (λ (b : List ℕ). old ++ b) is

pub on_both : {T E A B P : Type 0} (r : Result T E) → (A → B → P) → OnErr r A → OnErr r B → OnErr r P
on_both (Ok x) f a b = tt
on_both (Err e) f a b = f a b

-- an error holds no value, and a value no error
pub not_ok : {T E : Type 0} (P : Type 0) (r : Result T E) (b : Bool) → b ≡ is_err r → b ≡ true → OnOk r P
not_ok P (Ok x) b is e = absurd (true≢false (sym e ∙ is))
not_ok P (Err x) b is e = tt

pub not_err : {T E : Type 0} (P : Type 0) (r : Result T E) (b : Bool) → b ≡ is_err r → b ≡ false → OnErr r P
not_err P (Ok x) b is e = tt
not_err P (Err x) b is e = absurd (false≢true (sym e ∙ is))

-- what was written after the old octets is cut off again
pub all_back : {T E : Type 0} (Q : Type 0) (r : Result T E) (old mid new : List ℕ) (start : ℕ) → start ≡ length old → new ≡ take start mid → OnErr r (Extends old mid × Q) → OnErr r (new ≡ old)
all_back Q r old mid new start at cut = on_err_weaker r (λ p. cut ∙ ap₂ (λ (n : ℕ) (b : List ℕ). take n b) at p.0.1 ∙ take-append_seam old p.0.0)

module _ (room : ℕ) (old : List ℕ) where
  -- a part is refused after those that are written, and some of it is left
  pub part_refused : (front part whole now new : List ℕ) → length front + length part ≤ length whole → now ≡ old ++ front
      → Extends now new × (room < length now + length part) → Extends old new × (room < length old + length whole)
  part_refused front part whole now new fits e p = (extends_more old now new front e p.0, omega (arith, p.1, fits, ap length e, length-append old front))

  pub third_refused : (head front part whole mid now new : List ℕ) → length head + length front + length part ≤ length whole → mid ≡ old ++ head → now ≡ mid ++ front
      → Extends now new × (room < length now + length part) → Extends old new × (room < length old + length whole)
  third_refused head front part whole mid now new fits e f =
      part_refused (head ++ front) part whole now new (omega (arith, fits, length-append head front)) (part_written old head front (head ++ front) mid now refl e f)

  pub last_refused : (front part whole now new : List ℕ) → front ++ part ≡ whole → now ≡ old ++ front
      → Extends now new × (room < length now + length part) → Extends old new × (room < length old + length whole)
  last_refused front part whole now new is e p = part_refused front part whole now new (omega (arith, ap length is, length-append front part)) e p

  -- and nothing of it is left
  pub last_left_out : (front part whole now new : List ℕ) → front ++ part ≡ whole → now ≡ old ++ front
      → new ≡ now → room < length now + length part → Extends old new × (room < length old + length whole)
  last_left_out front part whole now new is e same full = ((front, same ∙ e), omega (arith, full, ap length is, length-append front part, ap length e, length-append old front))

-- the prefixes after a family and next hops
pub behind_hops : (afi : ℕ) (hop : List ℕ) (routes : List PrefixValue) → reach_row afi hop [] ++ run_octets routes ≡ reach_row afi hop routes
behind_hops afi hop routes = ap (λ (b : List ℕ). to_be_bytes w16 afi ++ (UNICAST ∷ length hop ∷ b)) (append_assoc hop (0 ∷ []) (run_octets routes))

-- where these have no room, all have none
pub hops_refused : (room : ℕ) (old new : List ℕ) (afi : ℕ) (hop : List ℕ) (routes : List PrefixValue) → Extends old new × (room < length old + length (reach_row afi hop []))
    → Extends old new × (room < length old + length (reach_row afi hop routes))
hops_refused room old new afi hop routes p = (p.0, omega (arith, p.1, ap length (behind_hops afi hop routes), length-append (reach_row afi hop []) (run_octets routes)))

-- where one of a row has no room, the row has none
pub row_stopped : {X : Type 0} (octets : X → List ℕ) (P : X → Type 0) (xs : List X) (i : ℕ) (before now : List ℕ) (so_far : IsWritten octets P (take i xs) before now) (room : ℕ) (x : X) (new : List ℕ)
    → i < length xs → x ≡ get_or xs i x → Extends now new × (room < length now + length (octets x)) → Extends before new × (room < length before + length (flat_map octets xs))
row_stopped octets P xs i before now so_far room x new lt is p = (some_written octets P xs i before now so_far new p.0, one_lacks octets P xs i before now so_far room x lt is p.1)
