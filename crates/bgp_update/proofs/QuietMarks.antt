-- Marks without notes.
use Rattle.bgp_wire.proofs.Std.{◌≡◌, ℕ, Bool, false, ◌||◌, List, [], ◌∷◌, ◌++◌, refl, ap₂, ◌∙◌, true≢false, flat_map, list_any, or_parts, flat_map-cons}
use Rattle.bgp_wire.specs.Reader as reader
use Rattle.bgp_attr.specs.declared.judged.Judged.{Judged}
use Rattle.bgp_attr.specs.declared.judged.Judged.TheVariants as judged
use Rattle.bgp_open.specs.declared.context.Context.{Context}
use Rattle.bgp_update.specs.Prelude.{Mark, field_marks, Parts, attributes_at, is_missing, mark_notes, missing_notes, missing_of, notes_of, is_noted}
use Rattle.bgp_update.specs.declared.missing.Missing.{Missing}
use Rattle.bgp_update.specs.declared.note.Note.{Note}

no_note : (at place kind : ℕ) (j : Judged) → is_noted j ≡ false → mark_notes at (record { at = place; kind = kind; judged = j }) ≡ []
no_note at place kind (judged.Keep a) quiet = refl
no_note at place kind (judged.Reset n) quiet = refl
no_note at place kind (judged.Discard w) quiet = absurd (true≢false quiet)
no_note at place kind (judged.Withdraw w) quiet = absurd (true≢false quiet)

pub quiet_marks : (at : ℕ) (marks : List Mark) → list_any (λ m. is_noted m.judged) marks ≡ false → flat_map (mark_notes at) marks ≡ []
quiet_marks at [] quiet = refl
quiet_marks at (m ∷ ms) quiet =
    let parts = or_parts (is_noted m.judged) (list_any (λ (n : Mark). is_noted n.judged) ms) quiet in
    flat_map-cons (mark_notes at) m ms ∙ ap₂ (λ (a b : List _). a ++ b) (no_note at m.at m.kind m.judged parts.0) (quiet_marks at ms parts.1)

pub no_marks : (ctx : Context) (nlri : Bool) → field_marks ctx nlri [] ≡ []
unfolding field_marks reader.pieces
no_marks ctx nlri = refl

nothing_missing : (m : Missing) → is_missing m ≡ false → missing_notes m ≡ []
nothing_missing m none =
    let first = or_parts m.origin (m.as_path || m.next_hop) none in
    let others = or_parts m.as_path m.next_hop first.1 in
    rw (first.0, others.0, others.1) refl

pub no_notes : (p : Parts) (marks : List Mark) → (list_any (λ m. is_noted m.judged) marks || is_missing (missing_of p marks)) ≡ false → notes_of p marks ≡ []
no_notes p marks none =
    let parts = or_parts (list_any (λ (m : Mark). is_noted m.judged) marks) (is_missing (missing_of p marks)) none in
    ap₂ (λ (a b : List Note). a ++ b) (quiet_marks (attributes_at p) marks parts.0) (nothing_missing (missing_of p marks) parts.1)
