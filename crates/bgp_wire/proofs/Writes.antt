-- Rows that are written value by value.
use Rattle.bgp_wire.proofs.Std.{◌≡◌, ℕ, ◌+◌, ◌<◌, ◌≤◌, List, [], ◌∷◌, ◌++◌, length, get_or, take, sym, ap, subst, ◌∙◌, append_assoc, arith, flat_map, AllByRecursion, take_more, flat_map_more, length-flat_map-take}
use Rattle.std.proofs.lemmas.List.{append-nil, length-append, take_all}
use Rattle.bgp_wire.specs.Prelude.{Extends}

-- each element, and one more
pub all_push : {X : Type 0} (P : X → Type 0) (xs : List X) (x : X) → AllByRecursion P xs → P x → AllByRecursion P (xs ++ x ∷ [])
all_push P [] x all p = (p, tt)
all_push P (y ∷ xs) x all p = (all.0, all_push P xs x all.1 p)

-- the values are appended to what was there, and each is within its field
pub record IsWritten {X : Type 0} (octets : X → List ℕ) (P : X → Type 0) (xs : List X) (before now : List ℕ) : Type 0 where
  pub items : now ≡ before ++ flat_map octets xs
  pub ranges : AllByRecursion P xs

module _ {X : Type 0} (octets : X → List ℕ) (P : X → Type 0) where
  pub none_written : (before : List ℕ) → IsWritten octets P [] before before
  none_written before = record { items = sym (append-nil before); ranges = tt }

  module _ (xs : List X) (i : ℕ) (before old : List ℕ) (so_far : IsWritten octets P (take i xs) before old) where
    pub one_written : (x : X) (new : List ℕ) → i < length xs → x ≡ get_or xs i x → new ≡ old ++ octets x → P x → IsWritten octets P (take (i + 1) xs) before new
    one_written x new lt is more p =
        let one_more : take (i + 1) xs ≡ take i xs ++ x ∷ [] = take_more xs i x lt ∙ ap (λ (y : X). take i xs ++ y ∷ []) (sym is) in
        record {
          items = more ∙ ap (λ (b : List ℕ). b ++ octets x) so_far.items ∙ append_assoc before (flat_map octets (take i xs)) (octets x)
              ∙ ap (λ (b : List ℕ). before ++ b) (flat_map_more octets [] (take i xs) x ∙ ap (flat_map octets) (sym one_more));
          ranges = subst (AllByRecursion P) (sym one_more) (all_push P (take i xs) x so_far.ranges p);
        }

    pub all_written : length xs ≤ i → IsWritten octets P xs before old
    all_written le = subst (λ (ys : List X). IsWritten octets P ys before old) (take_all i xs le) so_far

    -- a failed allocation leaves what was there, and some octets after it
    pub some_written : (new : List ℕ) → Extends old new → Extends before new
    some_written new more = (flat_map octets (take i xs) ++ more.0, more.1 ∙ ap (λ (b : List ℕ). b ++ more.0) so_far.items ∙ append_assoc before (flat_map octets (take i xs)) more.0)

    -- where the next has no room, all have none
    pub one_lacks : (room : ℕ) (x : X) → i < length xs → x ≡ get_or xs i x → room < length old + length (octets x) → room < length before + length (flat_map octets xs)
    one_lacks room x lt is full =
        omega (arith, full, ap length so_far.items, length-append before (flat_map octets (take i xs)), ap (λ (y : X). length (octets y)) is, length-flat_map-take octets xs i x lt)
