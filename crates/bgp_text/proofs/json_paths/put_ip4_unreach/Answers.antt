use Rattle.bgp_text.proofs.Prelude.{◌≡◌, ◌++◌, ℕ, List, OnOk, subst, append_assoc, codes, string_bytes, prefixes_left}
use Rattle.bgp_attr.specs.declared.mp.MpUnreach.TheVariants as unreach
use Rattle.bgp_paths.specs.Prelude.{numbers4, numbers6}
use Rattle.bgp_text.specs.JsonPaths.{path_unreach_json}
use Rattle.bgp_text.proofs.json_paths.put_ip4_unreach.Goals as goal

pub returns : goal.returns
unfolding path_unreach_json
returns c =
    let all : string_bytes c.put_paths_member.new.text ++ codes "}"
    ≡ string_bytes c.args.text.now ++ path_unreach_json (numbers4 c.args.run) (numbers6 c.args.run) (unreach.Ip4 (prefixes_left c.args.routes)) =
    rw (c.in_ok-put_paths_member.ensures, c.in_ok-put_list_member.ensures, c.in_ok-put_family.ensures, c.of_ip4.ensures) (simp append_assoc) in
    subst (λ (t : List ℕ). OnOk c.put_object_end.result (string_bytes c.put_object_end.new.text ≡ t)) all c.put_object_end.ensures
