-- What a verdict that isn't a reset says of a body.
use Rattle.bgp_fields.proofs.Prelude.{◌≡◌, ℕ, List, [], ◌∷◌, ◌++◌, None, refl, sym, ◌∙◌, flat_map, AllByRecursion, flat_map-cons, Attr, Judged, Mark}
use Rattle.bgp_fields.proofs.Prelude.{mark_notes, missing_notes, missing_of, notes_of, Parts, attributes_at, reset_by, first_reset, reset_of, or-parts}

-- ---- marks without reset and note

-- the mark says that the attribute is kept
abbrev pub IsKept : Judged → Type 0
IsKept j = (a : Attr) × (j ≡ Judged.Keep a)

first-nil : {A : Type 0} (xs ys : List A) → xs ++ ys ≡ [] → (xs ≡ []) × (ys ≡ [])
first-nil [] ys e = (refl, e)
first-nil (x ∷ xs) ys e = absurd cc

kept-mark : (at place kind : ℕ) (j : Judged) → reset_by j ≡ None → mark_notes at (record { at = place; kind = kind; judged = j }) ≡ [] → IsKept j
kept-mark at place kind (Judged.Keep a) r n = (a, refl)
kept-mark at place kind (Judged.Discard w) r n = absurd cc
kept-mark at place kind (Judged.Withdraw w) r n = absurd cc
kept-mark at place kind (Judged.Reset m) r n = absurd cc

pub kept-marks : (at : ℕ) (ms : List Mark) → first_reset ms ≡ None → flat_map (mark_notes at) ms ≡ [] → AllByRecursion (λ m. IsKept m.judged) ms
kept-marks at [] r n = tt
kept-marks at (m ∷ ms) r n =
    let resets = or-parts (reset_by m.judged) (first_reset ms) r in
    let notes = first-nil (mark_notes at m) (flat_map (mark_notes at) ms) (sym (flat_map-cons (mark_notes at) m ms) ∙ n) in
    (kept-mark at m.at m.kind m.judged resets.0 notes.0, kept-marks at ms resets.1 notes.1)

pub all-kept : (p : Parts) (ms : List Mark) → reset_of p ms ≡ None → notes_of p ms ≡ [] → AllByRecursion (λ m. IsKept m.judged) ms
all-kept p ms r n =
    kept-marks (attributes_at p) ms (or-parts (first_reset ms) _ r).0 (first-nil (flat_map (mark_notes (attributes_at p)) ms) (missing_notes (missing_of p ms)) n).0
