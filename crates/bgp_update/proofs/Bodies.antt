-- A body is its parts in exactly one way.
use Rattle.bgp_wire.proofs.Std.{◌≡◌, ℕ, ◌+◌, ◌<◌, ◌^◌, Bool, true, false, cond, leb, List, [], ◌∷◌, ◌++◌, length, take, drop, Option, Some, None, refl, sym, ap, subst, ◌∙◌, arith, w16, byte_at, to_be_bytes, from_be_bytes, leb-true, le-leb, from_be_bytes-to_be_bytes_2, be_bytes_2, take_at, drop_at, take-append-drop}
use Rattle.std.proofs.lemmas.List.{length-append, length-take}
use Rattle.bgp_wire.specs.Prelude.{AreOctets, ◌>>=◌}
use Rattle.bgp_wire.proofs.OctetLemmas.{AreOctets-front, AreOctets-back}
use Rattle.bgp_update.specs.Prelude.{body_octets, Parts, IsBody, behind_two, parts_of}

-- ---- a row after its length in two octets

abbrev found : List ℕ × List ℕ → Option (List ℕ × List ℕ)
found p = Some p

found_same : (p q : List ℕ × List ℕ) → found p ≡ found q → p ≡ q
found_same p q e = cc

found_not : (p : List ℕ × List ℕ) → None ≡ found p → ⊥
found_not p e = absurd cc

finds_at : (high low : ℕ) (row back : List ℕ) → from_be_bytes w16 (high ∷ low ∷ []) ≡ length row → behind_two (high ∷ low ∷ (row ++ back)) ≡ Some (row, back)
finds_at high low row back e =
    let fits : leb (length row) (length (row ++ back)) ≡ true = le-leb _ _ (omega (arith, length-append row back)) in
    rw (e, fits, take_at row back (length row) refl, drop_at row back (length row) refl) refl

pub behind_two-finds : (row back : List ℕ) → length row < 2 ^ 16 → behind_two (to_be_bytes w16 (length row) ++ (row ++ back)) ≡ Some (row, back)
behind_two-finds row back small = finds_at (byte_at 1 (length row)) (byte_at 0 (length row)) row back (from_be_bytes-to_be_bytes_2 (length row) small)

-- what was found is at the front
pub record IsBehindTwo (row back b : List ℕ) : Type 0 where
  pub octets : b ≡ to_be_bytes w16 (length row) ++ (row ++ back)
  pub fits : length row < 2 ^ 16

two_small : (b : List ℕ) → AreOctets b → from_be_bytes w16 b < 2 ^ 16
two_small b octets = omega (arith, octets 0, octets 1)

-- octets after the first two
gives_at : (high low : ℕ) (b row back : List ℕ) (t : Bool) → AreOctets (high ∷ low ∷ b) → leb (from_be_bytes w16 (high ∷ low ∷ [])) (length b) ≡ t
    → cond t (found (take (from_be_bytes w16 (high ∷ low ∷ [])) b, drop (from_be_bytes w16 (high ∷ low ∷ [])) b)) None ≡ Some (row, back) → IsBehindTwo row back (high ∷ low ∷ b)
gives_at high low b row back true octets fits e =
    let n : ℕ = from_be_bytes w16 (high ∷ low ∷ []) in
    let two : AreOctets (high ∷ low ∷ []) = AreOctets-front (high ∷ low ∷ []) b octets in
    let held : length (take n b) ≡ n = omega (arith, length-take n b, leb-true n (length b) fits) in
    let size : to_be_bytes w16 (length (take n b)) ≡ high ∷ low ∷ [] = be_bytes_2 (high ∷ low ∷ []) (length (take n b)) refl two held in
    let small : length (take n b) < 2 ^ 16 = omega (arith, held, two_small (high ∷ low ∷ []) two) in
    subst (λ (q : List ℕ × List ℕ). IsBehindTwo q.0 q.1 (high ∷ low ∷ b)) (found_same (take n b, drop n b) (row, back) e)
    (record {
      octets = ap (λ (x : List ℕ). high ∷ low ∷ x) (sym (take-append-drop n b)) ∙ ap (λ (s : List ℕ). s ++ (take n b ++ drop n b)) (sym size);
      fits = small;
    })
gives_at high low b row back false octets fits e = absurd (found_not (row, back) e)

pub behind_two-gives : (b row back : List ℕ) → AreOctets b → behind_two b ≡ Some (row, back) → IsBehindTwo row back b
behind_two-gives [] row back octets e = absurd (found_not (row, back) e)
behind_two-gives (high ∷ []) row back octets e = absurd (found_not (row, back) e)
behind_two-gives (high ∷ low ∷ b) row back octets e = gives_at high low b row back (leb (from_be_bytes w16 (high ∷ low ∷ [])) (length b)) octets refl e

-- ---- the parts

-- the parts after Withdrawn Routes, and after nothing
abbrev pub with_attributes : List ℕ → Option (List ℕ × List ℕ) → Option Parts
with_attributes withdrawn o = do
  attributes ← o
  Some (record { withdrawn = withdrawn; attributes = attributes.0; nlri = attributes.1 })

abbrev pub with_withdrawn : Option (List ℕ × List ℕ) → Option Parts
with_withdrawn o = do
  withdrawn ← o
  with_attributes withdrawn.0 (behind_two withdrawn.1)

pub body-parts : (body : List ℕ) (p : Parts) → IsBody p body → parts_of body ≡ Some p
unfolding parts_of
body-parts body p s =
    ap parts_of s.octets
    ∙ ap with_withdrawn (behind_two-finds p.withdrawn (to_be_bytes w16 (length p.attributes) ++ (p.attributes ++ p.nlri)) s.withdrawn_fits)
    ∙ ap (with_attributes p.withdrawn) (behind_two-finds p.attributes p.nlri s.attributes_fit)

abbrev parts_found : Parts → Option Parts
parts_found p = Some p

parts_same : (p q : Parts) → parts_found p ≡ parts_found q → p ≡ q
parts_same p q e = cc

parts_not : (p : Parts) → None ≡ parts_found p → ⊥
parts_not p e = absurd cc

behind_withdrawn : (body withdrawn rest : List ℕ) (p : Parts) → AreOctets body → IsBehindTwo withdrawn rest body
    → (o : Option (List ℕ × List ℕ)) → behind_two rest ≡ o → with_attributes withdrawn o ≡ Some p → IsBody p body
behind_withdrawn body withdrawn rest p octets s None found e = absurd (parts_not p e)
behind_withdrawn body withdrawn rest p octets s (Some (attributes, nlri)) found e =
    let later : AreOctets (withdrawn ++ rest) = AreOctets-back (to_be_bytes w16 (length withdrawn)) (withdrawn ++ rest) (subst AreOctets s.octets octets) in
    let behind = behind_two-gives rest attributes nlri (AreOctets-back withdrawn rest later) found in
    subst (λ (q : Parts). IsBody q body) (parts_same (record { withdrawn = withdrawn; attributes = attributes; nlri = nlri }) p e)
    (record {
      octets = s.octets ∙ ap (λ (x : List ℕ). to_be_bytes w16 (length withdrawn) ++ (withdrawn ++ x)) behind.octets;
      withdrawn_fits = s.fits;
      attributes_fit = behind.fits;
    })

at_front : (body : List ℕ) (p : Parts) → AreOctets body → (o : Option (List ℕ × List ℕ)) → behind_two body ≡ o → with_withdrawn o ≡ Some p → IsBody p body
at_front body p octets None found e = absurd (parts_not p e)
at_front body p octets (Some (withdrawn, rest)) found e =
    behind_withdrawn body withdrawn rest p octets (behind_two-gives body withdrawn rest octets found) (behind_two rest) refl e

pub parts-body : (body : List ℕ) (p : Parts) → AreOctets body → parts_of body ≡ Some p → IsBody p body
unfolding parts_of
parts-body body p octets e = at_front body p octets (behind_two body) refl e

pub length-body : (withdrawn attributes nlri : List ℕ) → length (body_octets withdrawn attributes nlri) ≡ 4 + (length withdrawn + (length attributes + length nlri))
length-body withdrawn attributes nlri =
    let size : List ℕ = to_be_bytes w16 (length attributes) in
    omega (arith, length-append withdrawn (size ++ (attributes ++ nlri)), length-append attributes nlri)
