-- Large communities without duplicates, a step at a time.
use Rattle.bgp_wire.proofs.Std.{◌≡◌, ℕ, ◌+◌, ◌<◌, ◌≤◌, Bool, true, false, ◌||◌, ◌&&◌, cond, List, [], ◌∷◌, ◌++◌, length, take, drop, Some, None, refl, sym, ap, ap₂, ◌∙◌, arith, list_any, take_at, drop_at, take-append-drop, take-append-add}
use Rattle.std.proofs.lemmas.List.{length-append, length-take, length-drop, drop-drop}
use Rattle.std.proofs.Math.ListN.{drop_of_length-le}
use Rattle.bgp_wire.specs.Prelude.{pieces}
use Rattle.bgp_wire.proofs.Rows.{Row-push}
use Rattle.bgp_wire.proofs.Behinds.{pieces-whole, Row-pieces}
use Rattle.bgp_wire.proofs.Walks.{shorter, first_then, no_more}
use Rattle.bgp_attr.specs.Prelude.{IsTriple, one_triple, triples_of, same_triple, once_behind, IsRowUpTo, new_from}
use Rattle.bgp_attr.proofs.Readers.{IsTriple-reads}

pub no_triples : pieces one_triple [] ≡ ([], [])
no_triples = pieces-whole (List ℕ) IsTriple one_triple IsTriple-reads [] [] refl

-- ---- the same triple

-- the last number compared first
pub last_first : (a b c : Bool) → (c && (a && b)) ≡ (a && (b && c))
last_first true true true = refl
last_first true true false = refl
last_first true false true = refl
last_first true false false = refl
last_first false b true = refl
last_first false b false = refl

-- ---- a triple among those of octets

module _ (b : List ℕ) where
  pub triple_shorter : (t rest : List ℕ) → Some (t, rest) ≡ one_triple b → length rest < length b
  triple_shorter t rest e = shorter (List ℕ) IsTriple one_triple IsTriple-reads b t rest e

  triple_then : (t rest : List ℕ) → Some (t, rest) ≡ one_triple b → triples_of b ≡ t ∷ triples_of rest
  triple_then t rest e = first_then (List ℕ) IsTriple one_triple IsTriple-reads b t rest e

  pub no_triple : None ≡ one_triple b → triples_of b ≡ []
  no_triple e = no_more (List ℕ) IsTriple one_triple IsTriple-reads b e

  pub any_triple_later : (test : List ℕ → Bool) (t rest : List ℕ) → Some (t, rest) ≡ one_triple b → test t ≡ false → list_any test (triples_of rest) ≡ list_any test (triples_of b)
  any_triple_later test t rest e fails = sym (ap (list_any test) (triple_then t rest e) ∙ ap (λ (s : Bool). s || list_any test (triples_of rest)) fails)

  pub any_triple_first : (test : List ℕ → Bool) (t rest : List ℕ) → Some (t, rest) ≡ one_triple b → test t ≡ true → list_any test (triples_of b) ≡ true
  any_triple_first test t rest e passes = ap (list_any test) (triple_then t rest e) ∙ ap (λ (s : Bool). s || list_any test (triples_of rest)) passes

  pub any_triple_none : (test : List ℕ → Bool) → None ≡ one_triple b → list_any test (triples_of b) ≡ false
  any_triple_none test e = ap (list_any test) (no_triple e)

-- ---- the first new triple

module _ (b : List ℕ) (at : ℕ) where
  -- at the end nothing new follows
  pub nothing_new : length b ≤ at → new_from b at ≡ []
  nothing_new le = ap (λ (c : List ℕ). once_behind (triples_of (take at b)) (triples_of c)) (drop_of_length-le b le) ∙ ap (λ (q : List (List ℕ) × List ℕ). once_behind (triples_of (take at b)) q.0) no_triples

  pub none_new : None ≡ one_triple (drop at b) → new_from b at ≡ []
  none_new e = ap (once_behind (triples_of (take at b))) (no_triple (drop at b) e)

  module _ (up : IsRowUpTo b at) (t rest : List ℕ) (e : Some (t, rest) ≡ one_triple (drop at b)) where
    -- the octets of the triple
    front : List ℕ
    front = (IsTriple-reads.gives (drop at b) t rest (sym e)).0

    front_then : drop at b ≡ front ++ rest
    unfolding front
    front_then = (IsTriple-reads.gives (drop at b) t rest (sym e)).1

    front_spells : IsTriple t front
    unfolding front
    front_spells = (IsTriple-reads.gives (drop at b) t rest (sym e)).2

    pub fits : at + 12 ≤ length b
    fits = omega (arith, length-drop at b, up.within, ap length front_then, length-append front rest, front_spells.twelve)

    taken_more : take (at + 12) b ≡ take at b ++ front
    taken_more =
        let len : length (take at b) ≡ at = omega (arith, length-take at b, up.within) in
        ap₂ take (ap (λ (n : ℕ). n + 12) (sym len)) (sym (take-append-drop at b)) ∙ take-append-add (take at b) (drop at b) 12
        ∙ ap (λ (c : List ℕ). take at b ++ take 12 c) front_then ∙ ap (λ (c : List ℕ). take at b ++ c) (take_at front rest 12 front_spells.twelve)

    dropped_more : drop (at + 12) b ≡ rest
    dropped_more = sym (drop-drop 12 at b) ∙ ap (drop 12) front_then ∙ drop_at front rest 12 front_spells.twelve

    row_more : pieces one_triple (take (at + 12) b) ≡ (triples_of (take at b) ++ t ∷ [], [])
    row_more =
        let so_far = Row-pieces (List ℕ) IsTriple one_triple IsTriple-reads (take at b) (triples_of (take at b)) (ap (λ (r : List ℕ). (triples_of (take at b), r)) up.row) in
        ap (pieces one_triple) taken_more
        ∙ pieces-whole (List ℕ) IsTriple one_triple IsTriple-reads (triples_of (take at b) ++ t ∷ []) (take at b ++ front) (Row-push IsTriple (triples_of (take at b)) t (take at b) front so_far front_spells)

    pub up_more : IsRowUpTo b (at + 12)
    up_more = record { within = fits; row = ap (λ (q : List (List ℕ) × List ℕ). q.1) row_more }

    step : new_from b at ≡ cond (list_any (same_triple t) (triples_of (take at b))) (new_from b (at + 12)) (t ∷ new_from b (at + 12))
    step =
        ap (once_behind (triples_of (take at b))) (triple_then (drop at b) t rest e)
        ∙ ap₂ (λ (before : List (List ℕ)) (c : List ℕ). cond (list_any (same_triple t) (triples_of (take at b))) (once_behind before (triples_of c)) (t ∷ once_behind before (triples_of c)))
        (ap (λ (q : List (List ℕ) × List ℕ). q.0) (sym row_more)) (sym dropped_more)

    pub seen_before : true ≡ list_any (same_triple t) (triples_of (take at b)) → new_from b at ≡ new_from b (at + 12)
    seen_before seen = step ∙ ap (λ (s : Bool). cond s (new_from b (at + 12)) (t ∷ new_from b (at + 12))) (sym seen)

    pub not_before : false ≡ list_any (same_triple t) (triples_of (take at b)) → new_from b at ≡ t ∷ new_from b (at + 12)
    not_before new = step ∙ ap (λ (s : Bool). cond s (new_from b (at + 12)) (t ∷ new_from b (at + 12))) (sym new)
