use Rattle.bgp_text.proofs.Prelude.{◌≡◌, ◌++◌, ℕ, List, OnOk, subst, append_assoc, codes, flat_map, string_bytes, prefixes_left}
use Rattle.bgp_text.specs.Below.{ipv4_text, reach_value}
use Rattle.bgp_paths.specs.Prelude.{numbers4, numbers6, numbers_left}
use Rattle.bgp_text.specs.Beside.{beside}
use Rattle.bgp_text.specs.PathLines.{beside_line, path_reach_lines}
use Rattle.bgp_text.proofs.path_lines.put_path_reach.Goals as goal

pub returns-in_ok-put_line-in-Ip4 : goal.returns-in_ok-put_line-in-Ip4
returns-in_ok-put_line-in-Ip4 c =
    let all : string_bytes c.put_line.new.text ++ flat_map (beside_line (codes "  mp_nlri ") ipv4_text) (beside (prefixes_left c.in-Ip4.nlri) (numbers_left c.of_ip4-numbers.result))
    ≡ string_bytes c.args.text.now ++ path_reach_lines (numbers4 c.args.run) (numbers6 c.args.run) (reach_value c.args.reach) =
    rw (c.in-Ip4.is, c.in_ok-put_line-in-Ip4.ensures, c.of_ip4-numbers.ensures) (simp append_assoc) in
    subst (λ (t : List ℕ). OnOk c.put_beside_lines.result (string_bytes c.put_beside_lines.new.text ≡ t)) all c.put_beside_lines.ensures
