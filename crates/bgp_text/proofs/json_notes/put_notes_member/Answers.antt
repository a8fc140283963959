use Rattle.bgp_text.proofs.Prelude.{◌≡◌, ◌++◌, List, OnOk, subst, string_bytes, Note}
use Rattle.bgp_text.specs.JsonNotes.{notes_member}
use Rattle.bgp_text.proofs.json_notes.put_notes_member.Goals as goal

pub returns : goal.returns
returns c =
    subst (λ (notes : List Note). OnOk c.put_list_member.result (string_bytes c.put_list_member.new.text ≡ string_bytes c.args.text.now ++ notes_member notes))
    c.notes.ensures c.put_list_member.ensures
