use Rattle.bgp_text.proofs.Prelude.{◌≡◌, ◌++◌, List, ℕ, OnOk, subst, map, append_assoc, string_bytes, opaque_value, prefixes_left, known_value, update_value}
use Rattle.bgp_text.proofs.Prelude.{Shown, printed, printed_attributes}
use Rattle.bgp_update.specs.declared.update.Update.{Update}
use Rattle.bgp_text.proofs.PrintedSlots.{known_printed}
use Rattle.bgp_text.proofs.members.put_members.Goals as goal

pub returns : goal.returns
returns g c =
    let s : Shown = g.F.Form.shown c.args.form.now in
    let u : Update = update_value c.args.view.now in
    let e1 : string_bytes c.put_withdrawn.new.text ≡ string_bytes c.args.text.now ++ s.withdrawn (prefixes_left c.withdrawn.result) = c.in_ok-put_withdrawn.ensures in
    let e2 : string_bytes c.put_attributes.new.text ≡ string_bytes c.put_withdrawn.new.text ++ printed_attributes s.attribute (known_value c.kept.result.now) = c.in_ok-put_attributes.ensures in
    let e3 : string_bytes c.put_others.new.text ≡ string_bytes c.put_attributes.new.text ++ s.others (map opaque_value c.as_slice.result.now) = c.in_ok-put_others.ensures in
    let all : string_bytes c.put_others.new.text ++ s.nlri (prefixes_left c.nlri.result) ≡ string_bytes c.args.text.now ++ printed s u =
    rw (e3, e2, e1, c.withdrawn.ensures, c.kept.ensures.known, known_printed s.attribute u.attrs, c.as_slice.ensures, c.in_ok-others.ensures.value, c.nlri.ensures) (simp append_assoc) in
    subst (λ (t : List ℕ). OnOk c.put_nlri.result (string_bytes c.put_nlri.new.text ≡ t)) all c.put_nlri.ensures
