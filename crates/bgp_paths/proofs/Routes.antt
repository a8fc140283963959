-- Routes with path identifiers are read as they are spelled.
use Rattle.bgp_wire.proofs.Std.{◌≡◌, ℕ, List, [], ◌∷◌, ◌++◌, length, Some, None, refl, sym, ap, ◌∙◌, append_assoc, flat_map, flat_map-cons, subst, arith, w32, from_be_bytes}
use Rattle.bgp_wire.specs.Prelude.{Reads}
use Rattle.bgp_wire.proofs.Firsts.{both_steps}
use Rattle.bgp_wire.proofs.Pieces.{found_same, found_not, pieces-none, pieces-some}
use Rattle.bgp_prefix.specs.Prelude.{one_prefix, spelling_of}
use Rattle.bgp_prefix.proofs.PrefixLemmas.{IsPrefix-reads}
use Rattle.bgp_paths.specs.Prelude.{IsPathPrefix, PathPrefixValue, identified_by, left_over, numbers_of, one_path_prefix, path_prefixes, path_run_of, plain_routes}

module _ (width : ℕ) where
  finds : (r : PathPrefixValue) (front back : List ℕ) → IsPathPrefix width r front → one_path_prefix width (front ++ back) ≡ Some (r, back)
  unfolding one_path_prefix
  finds r front back s =
      ap (λ (x : List ℕ). one_path_prefix width (x ++ back)) s.whole
      ∙ rw ((IsPrefix-reads width).finds r.prefix s.read back s.spelled) (ap (λ (n : ℕ). Some (record { path = n; prefix = r.prefix }, back)) (sym s.number))

  abbrev IsFront : List ℕ → PathPrefixValue × List ℕ → Type 0
  IsFront octets found = (front : List ℕ) × (octets ≡ front ++ found.1) × IsPathPrefix width found.0 front

  gives : (octets : List ℕ) (r : PathPrefixValue) (back : List ℕ) → one_path_prefix width octets ≡ Some (r, back) → IsFront octets (r, back)
  unfolding one_path_prefix
  gives [] r back e = absurd (found_not PathPrefixValue (r, back) e)
  gives (a ∷ []) r back e = absurd (found_not PathPrefixValue (r, back) e)
  gives (a ∷ b ∷ []) r back e = absurd (found_not PathPrefixValue (r, back) e)
  gives (a ∷ b ∷ c ∷ []) r back e = absurd (found_not PathPrefixValue (r, back) e)
  gives (a ∷ b ∷ c ∷ d ∷ behind) r back e =
      let n : ℕ = from_be_bytes w32 (a ∷ b ∷ c ∷ d ∷ []) in
      let step = both_steps (one_prefix width behind) (λ found. Some (identified_by n found)) (r, back) e in
      let gave = (IsPrefix-reads width).gives behind step.0.0 step.0.1 step.1 in
      subst (IsFront (a ∷ b ∷ c ∷ d ∷ behind)) (found_same PathPrefixValue (identified_by n step.0) (r, back) step.2) (
        a ∷ b ∷ c ∷ d ∷ gave.0,
        ap (λ (x : List ℕ). a ∷ b ∷ c ∷ d ∷ x) gave.1,
        record { a = a; b = b; c = c; d = d; read = gave.0; whole = refl; number = refl; spelled = gave.2 },
      )

  pub IsPathPrefix-reads : Reads (IsPathPrefix width) (one_path_prefix width)
  IsPathPrefix-reads = record {
    not_empty = λ r b s. omega (arith, ap length s.whole);
    finds = finds;
    gives = gives;
  }

  -- the prefix of the first route, and those of the others
  pub routes_first : (b : List ℕ) (r : PathPrefixValue) (after : List ℕ) → Some (r, after) ≡ one_path_prefix width b → plain_routes width b ≡ spelling_of r.prefix ++ plain_routes width after
  routes_first b r after e =
      let more = pieces-some PathPrefixValue (IsPathPrefix width) (one_path_prefix width) IsPathPrefix-reads b r after (sym e) in
      ap (λ (q : List PathPrefixValue × List ℕ). flat_map (λ x. spelling_of x.prefix) q.0 ++ left_over q.1) more
      ∙ ap (λ (x : List ℕ). x ++ left_over (path_run_of width after).1) (flat_map-cons (λ x. spelling_of x.prefix) r (path_run_of width after).0)
      ∙ append_assoc (spelling_of r.prefix) (flat_map (λ x. spelling_of x.prefix) (path_run_of width after).0) (left_over (path_run_of width after).1)

  pub routes_none : (b : List ℕ) → None ≡ one_path_prefix width b → plain_routes width b ≡ left_over b
  routes_none b e =
      ap (λ (q : List PathPrefixValue × List ℕ). flat_map (λ x. spelling_of x.prefix) q.0 ++ left_over q.1)
      (pieces-none PathPrefixValue (IsPathPrefix width) (one_path_prefix width) IsPathPrefix-reads b (sym e))

  -- the path identifiers of the first route, and of the others
  pub numbers_first : (b : List ℕ) (r : PathPrefixValue) (after : List ℕ) → Some (r, after) ≡ one_path_prefix width b
      → numbers_of (path_prefixes width b) ≡ r.path ∷ numbers_of (path_prefixes width after)
  numbers_first b r after e =
      ap (λ (q : List PathPrefixValue × List ℕ). numbers_of q.0) (pieces-some PathPrefixValue (IsPathPrefix width) (one_path_prefix width) IsPathPrefix-reads b r after (sym e))

  pub numbers_none : (b : List ℕ) → None ≡ one_path_prefix width b → numbers_of (path_prefixes width b) ≡ []
  numbers_none b e =
      ap (λ (q : List PathPrefixValue × List ℕ). numbers_of q.0) (pieces-none PathPrefixValue (IsPathPrefix width) (one_path_prefix width) IsPathPrefix-reads b (sym e))
