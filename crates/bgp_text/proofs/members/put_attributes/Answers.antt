use Rattle.bgp_text.proofs.Prelude.{◌≡◌, ℕ, List, OnOk, subst, flat_map, string_bytes, known_value, slot, printed_attributes}
use Rattle.bgp_text.proofs.PrintedSlots.{all_slots}
use Rattle.bgp_text.proofs.members.put_attributes.Goals as goal

pub returns : goal.returns
unfolding printed_attributes
returns g c =
    let p : ℕ → List ℕ = λ kind. flat_map (g.F.Form.shown c.args.form.now).attribute (slot (known_value c.args.kept.now) kind) in
    subst (λ (t : List ℕ). OnOk c.put_slot-13.result (string_bytes c.put_slot-13.new.text ≡ t))
    (all_slots p (string_bytes c.args.text.now) c.in_ok-put_slot.ensures c.in_ok-put_slot-2.ensures c.in_ok-put_slot-3.ensures
    c.in_ok-put_slot-4.ensures c.in_ok-put_slot-5.ensures c.in_ok-put_slot-6.ensures c.in_ok-put_slot-7.ensures c.in_ok-put_slot-8.ensures
    c.in_ok-put_slot-9.ensures c.in_ok-put_slot-10.ensures c.in_ok-put_slot-11.ensures c.in_ok-put_slot-12.ensures)
    c.put_slot-13.ensures
