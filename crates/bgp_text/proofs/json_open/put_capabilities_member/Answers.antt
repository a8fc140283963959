use Rattle.bgp_text.proofs.Prelude.{◌≡◌, ◌++◌, ℕ, List, OnOk, subst, ap, ◌∙◌, append_assoc, codes, string_bytes, named, listed, capability_json}
use Rattle.bgp_text.proofs.json_open.put_capabilities_member.Goals as goal

pub returns : goal.returns
returns c =
    let list : List ℕ = listed capability_json c.args.caps.now in
    let name : string_bytes c.put_name.new.text ≡ string_bytes c.args.text.now ++ named (codes "capabilities") = c.in_ok-put_name.ensures in
    subst (λ (t : List ℕ). OnOk c.put_capability_list.result (string_bytes c.put_capability_list.new.text ≡ t))
    (ap (λ (t : List ℕ). t ++ list) name ∙ append_assoc (string_bytes c.args.text.now) (named (codes "capabilities")) list)
    c.put_capability_list.ensures
