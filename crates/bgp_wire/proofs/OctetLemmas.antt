-- Parts of octets are octets, and so are octets joined.
use Rattle.bgp_wire.proofs.Std.{ℕ, zero, suc, ◌+◌, ◌-◌, ◌<◌, List, [], ◌∷◌, ◌++◌, length, get_or, take, drop, refl, arith, inl, inr, cases_lt, get_or-drop, get_or-take, get_or_past, get_or_append_left, get_or-append_right, get_or-append-add}
use Rattle.std.proofs.lemmas.List.{length-take}
use Rattle.bgp_wire.specs.Prelude.{AreOctets}

pub AreOctets-nil : AreOctets []
AreOctets-nil i = omega arith

pub AreOctets-drop : (n : ℕ) (b : List ℕ) → AreOctets b → AreOctets (drop n b)
AreOctets-drop n b h i = rw get_or-drop (h (n + i))

pub AreOctets-take : (n : ℕ) (b : List ℕ) → AreOctets b → AreOctets (take n b)
AreOctets-take n b h i =
    elim (cases_lt i n) [
      | inl lt ↦ rw (get_or-take n b i 0 lt) (h i)
      | inr le ↦ rw (get_or_past (take n b) i 0 (omega (arith, length-take n b))) (omega arith)
    ]

pub AreOctets-append : (a b : List ℕ) → AreOctets a → AreOctets b → AreOctets (a ++ b)
AreOctets-append a b p q i =
    elim (cases_lt i (length a)) [
      | inl lt ↦ rw (get_or_append_left a b 0 i lt) (p i)
      | inr le ↦ rw (get_or-append_right a b (length a) i 0 refl le) (q (i - length a))
    ]

pub AreOctets-front : (a b : List ℕ) → AreOctets (a ++ b) → AreOctets a
AreOctets-front a b h i =
    elim (cases_lt i (length a)) [
      | inl lt ↦ rw (get_or_append_left a b 0 i lt) at (h i)
      | inr le ↦ rw (get_or_past a i 0 le) (omega arith)
    ]

pub AreOctets-back : (a b : List ℕ) → AreOctets (a ++ b) → AreOctets b
AreOctets-back a b h i =
    let at : get_or (a ++ b) (length a + i) 0 < 256 = h (length a + i) in
    rw (get_or-append-add a b i 0) at at

pub AreOctets-one : (n : ℕ) → n < 256 → AreOctets (n ∷ [])
AreOctets-one n lt zero = lt
AreOctets-one n lt (suc i) = omega arith

pub AreOctets-push : (b : List ℕ) (n : ℕ) → AreOctets b → n < 256 → AreOctets (b ++ n ∷ [])
AreOctets-push b n h lt = AreOctets-append b (n ∷ []) h (AreOctets-one n lt)

-- an octet past the end is 0
pub AreOctets-within : (b : List ℕ) → ((i : ℕ) → i < length b → get_or b i 0 < 256) → AreOctets b
AreOctets-within b each i =
    elim (cases_lt i (length b)) [
      | inl lt ↦ each i lt
      | inr le ↦ rw (get_or_past b i 0 le) (omega arith)
    ]
