use Rattle.bgp_text.proofs.Prelude.{◌≡◌, ◌++◌, ℕ, List, OnOk, subst, append_assoc, string_bytes, notes_value, update_value}
use Rattle.bgp_paths.specs.Prelude.{path_numbers, shifted}
use Rattle.bgp_text.specs.PathLines.{path_update_lines}
use Rattle.bgp_text.specs.PlacedNotes.{placed_lines}
use Rattle.bgp_text.proofs.path_outcome.put_update.Goals as goal

pub returns : goal.returns
returns c =
    let all : string_bytes c.put_members.new.text ++ placed_lines (shifted c.args.shifts.now) (notes_value c.args.view.now)
    ≡ string_bytes c.args.text.now ++ path_update_lines (path_numbers c.args.runs.now) (shifted c.args.shifts.now) c.args.place c.args.len (update_value c.args.view.now) (notes_value c.args.view.now) =
    rw (c.in_ok-put_members.ensures, c.in_ok-put_head.ensures) (simp append_assoc) in
    subst (λ (t : List ℕ). OnOk c.put_notes.result (string_bytes c.put_notes.new.text ≡ t)) all c.put_notes.ensures
