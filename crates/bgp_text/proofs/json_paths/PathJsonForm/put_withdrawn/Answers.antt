use Rattle.bgp_text.proofs.Prelude.{◌≡◌, ◌++◌, ℕ, List, OnOk, subst, append_assoc, codes, string_bytes, prefixes_left}
use Rattle.bgp_paths.specs.Prelude.{numbers_left, path_numbers}
use Rattle.bgp_text.specs.JsonPaths.{in_path_json, paths_member}
use Rattle.bgp_text.proofs.json_paths.PathJsonForm.put_withdrawn.Goals as goal

pub returns : goal.returns
returns c =
    let all : string_bytes c.put_list_member.new.text ++ paths_member (codes "withdrawn_paths") (prefixes_left c.args.routes) (numbers_left c.args.self.now.runs.withdrawn)
    ≡ string_bytes c.args.text.now ++ (in_path_json (path_numbers c.args.self.now.runs)).withdrawn (prefixes_left c.args.routes) =
    rw c.in_ok-put_list_member.ensures (simp append_assoc) in
    subst (λ (t : List ℕ). OnOk c.put_paths_member.result (string_bytes c.put_paths_member.new.text ≡ t)) all c.put_paths_member.ensures
