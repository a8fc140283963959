-- A loop over the types in order: the attributes so far, with one more type, and all of them.
use Rattle.bgp_wire.proofs.Std.{◌≡◌, ℕ, ◌+◌, ◌<◌, ◌≤◌, List, [], ◌∷◌, ◌++◌, length, get_or, take, drop, sym, ap, subst, ◌∙◌, append_assoc, arith, flat_map, AllByRecursion, take_more, take-append-drop}
use Rattle.std.proofs.lemmas.Grind.{flat_map-append}
use Rattle.std.proofs.lemmas.List.{append-nil, length-append, take_all}
use Rattle.bgp_wire.specs.Prelude.{Extends}
use Rattle.bgp_wire.proofs.Writes.{IsWritten}
use Rattle.bgp_update.proofs.Lists.{all-append, all-front, all-back}

module _ {A : Type 0} (slots : ℕ → List A) (kinds : List ℕ) (i : ℕ) where
  -- the attributes of the types so far
  abbrev pub so_far : List A
  so_far = flat_map slots (take i kinds)

  pub all_walked : length kinds ≤ i → so_far ≡ flat_map slots kinds
  all_walked le = ap (flat_map slots) (take_all i kinds le)

  module _ (kind : ℕ) (lt : i < length kinds) (is : get_or kinds i 0 ≡ kind) where
    pub one_type : flat_map slots (take (i + 1) kinds) ≡ so_far ++ slots kind
    one_type =
        ap (flat_map slots) (take_more kinds i 0 lt ∙ ap (λ (k : ℕ). take i kinds ++ k ∷ []) is)
        ∙ flat_map-append slots (take i kinds) (kind ∷ []) ∙ ap (λ (xs : List A). so_far ++ xs) (append-nil (slots kind))

    -- they are the first of those of all types
    pub still_to_come : flat_map slots kinds ≡ (so_far ++ slots kind) ++ flat_map slots (drop (i + 1) kinds)
    still_to_come =
        ap (flat_map slots) (sym (take-append-drop (i + 1) kinds))
        ∙ flat_map-append slots (take (i + 1) kinds) (drop (i + 1) kinds)
        ∙ ap (λ (xs : List A). xs ++ flat_map slots (drop (i + 1) kinds)) one_type

    -- what holds of each attribute holds of those of a type
    pub all_of_type : (P : A → Type 0) → AllByRecursion P (flat_map slots kinds) → AllByRecursion P (slots kind)
    all_of_type P all =
        all-back P so_far (slots kind)
        (all-front P (so_far ++ slots kind) (flat_map slots (drop (i + 1) kinds)) (subst (AllByRecursion P) still_to_come all))

    -- ---- lengths

    module _ (octets : A → List ℕ) where
      length_added : length (flat_map octets (so_far ++ slots kind)) ≡ length (flat_map octets so_far) + length (flat_map octets (slots kind))
      length_added = ap length (flat_map-append octets so_far (slots kind)) ∙ length-append (flat_map octets so_far) (flat_map octets (slots kind))

      length_all : length (flat_map octets (flat_map slots kinds)) ≡ length (flat_map octets (so_far ++ slots kind)) + length (flat_map octets (flat_map slots (drop (i + 1) kinds)))
      length_all =
          ap (λ (xs : List A). length (flat_map octets xs)) still_to_come
          ∙ ap length (flat_map-append octets (so_far ++ slots kind) (flat_map slots (drop (i + 1) kinds)))
          ∙ length-append (flat_map octets (so_far ++ slots kind)) (flat_map octets (flat_map slots (drop (i + 1) kinds)))

    -- ---- writing

    module _ (octets : A → List ℕ) (P : A → Type 0) (before old : List ℕ) (written : IsWritten octets P so_far before old) where
      pub type_written : (new : List ℕ) → new ≡ old ++ flat_map octets (slots kind) → AllByRecursion P (slots kind) → IsWritten octets P (flat_map slots (take (i + 1) kinds)) before new
      type_written new more all =
          subst (λ (xs : List A). IsWritten octets P xs before new) (sym one_type) (record {
            items = more ∙ ap (λ (b : List ℕ). b ++ flat_map octets (slots kind)) written.items
                ∙ append_assoc before (flat_map octets so_far) (flat_map octets (slots kind))
                ∙ ap (λ (b : List ℕ). before ++ b) (sym (flat_map-append octets so_far (slots kind)));
            ranges = all-append P so_far (slots kind) written.ranges all;
          })

      -- where those of a type have no room, all have none
      pub type_lacks : (room : ℕ) → room < length old + length (flat_map octets (slots kind)) → room < length before + length (flat_map octets (flat_map slots kinds))
      type_lacks room full =
          omega (arith, full, ap length written.items, length-append before (flat_map octets so_far), length_added octets, length_all octets)

-- what was there, some octets, and more octets
pub written_more : {A : Type 0} (octets : A → List ℕ) (P : A → Type 0) (xs : List A) (before old new : List ℕ) → IsWritten octets P xs before old → Extends old new → Extends before new
written_more octets P xs before old new written more =
    (flat_map octets xs ++ more.0, more.1 ∙ ap (λ (b : List ℕ). b ++ more.0) written.items ∙ append_assoc before (flat_map octets xs) more.0)

-- no condition on the attributes
pub asks_nothing : {A : Type 0} (xs : List A) → AllByRecursion (λ (a : A). Unit {0}) xs
asks_nothing [] = tt
asks_nothing (x ∷ xs) = (tt, asks_nothing xs)
