-- What is left out of a message.
use Rattle.ristulva_c.proofs.Below.{◌≡◌, ◌≤◌, ◌<◌, ◌+◌, ℕ, Bool, true, false, cond, ltb, List, [], ◌∷◌, ◌++◌, length, map, refl, ap, ◌∙◌, arith, filter, flat_map, length-map, length-append, length-drop, pieces, Row, Capability, IsCapability, joined, parameters_of, open_value, IsParameter, one_parameter, OpenView, Attr, Judged, Opaque, Note, UpdateView, Mark, attrs_of, kept_by, kept_of, put_rising, is_opaque, as_opaque, rising_behind, view_marks, Splits-pieces}
use Rattle.bgp_open.proofs.Capabilities.{capability-reads}
use Rattle.bgp_open.proofs.Parameters.{parameter-reads}
use Rattle.bgp_attr.specs.declared.attr.Attr.TheVariants as attr
use Rattle.bgp_attr.specs.declared.judged.Judged.TheVariants as judged
use Rattle.bgp_update.proofs.KeptSlots.{others_of-kept}
use Rattle.bgp_clean.specs.Prelude.{Seen, none_seen, goes_on, seen_behind, understood, understood_behind}
use Rattle.ristulva_c.specs.Prelude.{note_told, is_left_out}
use Rattle.ristulva_c.proofs.NoteCounts.{few_view_marks}

-- each note is reported
pub all_told : (notes : List Note) → length (map note_told notes) ≡ length notes
all_told notes = length-map notes note_told

-- ---- attributes

one : {A : Type 0} (t : Bool) (x : A) (xs : List A) → length (cond t (x ∷ xs) xs) ≡ cond t 1 0 + length xs
one true x xs = omega arith
one false x xs = omega arith

module _ (drops : ℕ → Bool) where
  abbrev test : Opaque → Bool
  test o = drops o.kind

  put-by : (o p : Opaque) (ps : List Opaque) (t : Bool) → length (filter test (put_rising o ps)) ≡ cond (test o) 1 0 + length (filter test ps)
      → length (filter test (cond t (p ∷ put_rising o ps) (o ∷ p ∷ ps))) ≡ cond (test o) 1 0 + length (filter test (p ∷ ps))
  put-by o p ps true later = omega (arith, one (test p) p (filter test (put_rising o ps)), later, one (test p) p (filter test ps))
  put-by o p ps false later = one (test o) o (filter test (p ∷ ps))

  put-count : (o : Opaque) (ps : List Opaque) → length (filter test (put_rising o ps)) ≡ cond (test o) 1 0 + length (filter test ps)
  put-count o [] = one (test o) o []
  put-count o (p ∷ ps) = put-by o p ps (ltb p.kind o.kind) (put-count o ps)

  rising-count : (os there : List Opaque) → length (filter test (rising_behind there os)) ≡ length (filter test there) + length (filter test os)
  rising-count [] there = omega arith
  rising-count (o ∷ os) there = omega (arith, rising-count os (put_rising o there), put-count o there, one (test o) o (filter test os))

  opaque-by : (x : Attr) (xs : List Attr) → length (filter test (flat_map as_opaque xs)) ≡ length (filter (is_left_out drops) xs)
      → length (filter test (as_opaque x ++ flat_map as_opaque xs)) ≡ length (filter (is_left_out drops) (x ∷ xs))
  opaque-by (attr.Opaque o) xs later =
      omega (arith, one (drops o.kind) o (filter test (flat_map as_opaque xs)), later, one (drops o.kind) (attr.Opaque o) (filter (is_left_out drops) xs))
  opaque-by x xs later = later

  opaque-count : (xs : List Attr) → length (filter test (flat_map as_opaque xs)) ≡ length (filter (is_left_out drops) xs)
  opaque-count [] = refl
  opaque-count (x ∷ xs) = opaque-by x xs (opaque-count xs)

  -- the number of those that are kept and left out is that of those in their order
  pub kept_left_out : (kept : List Attr) → length (filter (is_left_out drops) kept) ≡ length (filter test (attrs_of kept).others)
  kept_left_out kept =
      omega (arith, opaque-count kept, rising-count (flat_map as_opaque kept) [], ap (λ (os : List Opaque). length (filter test os)) (others_of-kept kept))

few-by : (t : Bool) (x : Attr) (ys xs : List Attr) → length ys ≤ length xs → length (cond t (x ∷ ys) ys) ≤ length (x ∷ xs)
few-by true x ys xs le = omega (arith, le)
few-by false x ys xs le = omega (arith, le)

filter-few : (p : Attr → Bool) (xs : List Attr) → length (filter p xs) ≤ length xs
filter-few p [] = omega arith
filter-few p (x ∷ xs) = few-by (p x) x (filter p xs) xs (filter-few p xs)

one_kept : (j : Judged) → length (kept_by j) ≤ 1
one_kept (judged.Keep a) = omega arith
one_kept (judged.Discard w) = omega arith
one_kept (judged.Withdraw w) = omega arith
one_kept (judged.Reset n) = omega arith

kept-few : (ms : List Mark) → length (kept_of ms) ≤ length ms
kept-few [] = omega arith
kept-few (m ∷ ms) = omega (arith, one_kept m.judged, kept-few ms, length-append (kept_by m.judged) (kept_of ms))

-- their number is bounded
pub few_left_out : (drops : ℕ → Bool) (v : UpdateView) → length (filter (is_left_out drops) (kept_of (view_marks v))) ≤ 1358
few_left_out drops v = omega (arith, filter-few (is_left_out drops) (kept_of (view_marks v)), kept-few (view_marks v), few_view_marks v)

-- ---- those that are all of unrecognised types

abbrev each : ℕ → Bool
each k = true

same-by : (x : Attr) → is_opaque x ≡ is_left_out each x
same-by (attr.Opaque o) = refl
same-by _ = refl

opaque-same : (xs : List Attr) → filter is_opaque xs ≡ filter (is_left_out each) xs
opaque-same [] = refl
opaque-same (x ∷ xs) = λ i. cond (same-by x i) (x ∷ opaque-same xs i) (opaque-same xs i)

filter-all : (os : List Opaque) → filter (λ o. each o.kind) os ≡ os
filter-all [] = refl
filter-all (o ∷ os) = ap (λ (rest : List Opaque). o ∷ rest) (filter-all os)

pub all_others : (kept : List Attr) → length (filter is_opaque kept) ≡ length (attrs_of kept).others
all_others kept = ap length (opaque-same kept) ∙ kept_left_out each kept ∙ ap length (filter-all (attrs_of kept).others)

pub few_others : (v : UpdateView) → length (filter is_opaque (kept_of (view_marks v))) ≤ 1358
few_others v = omega (arith, ap length (opaque-same (kept_of (view_marks v))), few_left_out each v)

-- ---- capabilities

fewer-by : (t : Bool) (c : Capability) (more later : List Capability) → length more ≤ length later → length (cond t (c ∷ more) more) ≤ length (c ∷ later)
fewer-by true c more later le = omega (arith, le)
fewer-by false c more later le = omega (arith, le)

fewer-behind : (seen : Seen) (caps : List Capability) → length (understood_behind seen caps) ≤ length caps
fewer-behind seen [] = omega arith
fewer-behind seen (c ∷ caps) = fewer-by (goes_on seen c) c (understood_behind (seen_behind seen c) caps) caps (fewer-behind (seen_behind seen c) caps)

-- no more capabilities are passed on than there are
pub fewer : (caps : List Capability) → length (understood caps) ≤ length caps
fewer caps = fewer-behind none_seen caps

-- ---- the number of capabilities

row-few : {A : Type 0} (R : A → List ℕ → Type 0) → ((v : A) (b : List ℕ) → R v b → 0 < length b) → (vs : List A) (b : List ℕ) → Row R vs b → length vs ≤ length b
row-few R some [] b row = omega arith
row-few R some (v ∷ vs) b row = omega (arith, row-few R some vs row.1 row.4, ap length row.2, length-append row.0 row.1, some v row.0 row.3)

parameter-few : (cs : List Capability) (b : List ℕ) → IsParameter cs b → length cs ≤ length b
parameter-few cs b p =
    let h = p.holds in
    omega (arith, row-few IsCapability capability-reads.not_empty cs h.row h.spelled, ap length p.octets, ap length h.octets)

joined-few : (ps : List (List Capability)) (b : List ℕ) → Row IsParameter ps b → length (joined ps) ≤ length b
joined-few [] b row = omega arith
joined-few (cs ∷ ps) b row =
    omega (arith, parameter-few cs row.0 row.3, joined-few ps row.1 row.4, ap length row.2, length-append row.0 row.1, length-append cs (joined ps))

-- no more than octets
pub few_caps : (v : OpenView) → length (open_value v).caps ≤ length v.body.now
few_caps v =
    let s = Splits-pieces (List Capability) IsParameter one_parameter parameter-reads (parameters_of v.body.now) in
    omega (
      arith,
      joined-few (pieces one_parameter (parameters_of v.body.now)).0 s.row s.spelled,
      ap length s.whole,
      length-append s.row (pieces one_parameter (parameters_of v.body.now)).1,
      length-drop 10 v.body.now,
    )
