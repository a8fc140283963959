use Rattle.bgp_text.proofs.Prelude.{◌≡◌, ◌++◌, ℕ, List, OnOk, subst, append_assoc, codes, flat_map, string_bytes, prefixes_left}
use Rattle.bgp_text.specs.Below.{ipv4_text, ipv6_text, unreach_value}
use Rattle.bgp_paths.specs.Prelude.{numbers4, numbers6, numbers_left}
use Rattle.bgp_text.specs.Beside.{beside}
use Rattle.bgp_text.specs.PathLines.{beside_line, path_unreach_lines}
use Rattle.bgp_text.proofs.path_lines.put_path_unreach.Goals as goal

pub returns-in_ok-put_family-in-Ip4 : goal.returns-in_ok-put_family-in-Ip4
returns-in_ok-put_family-in-Ip4 c =
    let all : string_bytes c.put_family.new.text ++ flat_map (beside_line (codes "  mp_withdrawn ") ipv4_text) (beside (prefixes_left c.in-Ip4.routes) (numbers_left c.of_ip4-numbers.result))
    ≡ string_bytes c.args.text.now ++ path_unreach_lines (numbers4 c.args.run) (numbers6 c.args.run) (unreach_value c.args.unreach) =
    rw (c.in-Ip4.is, c.in_ok-put_family-in-Ip4.ensures, c.of_ip4-numbers.ensures) (simp append_assoc) in
    subst (λ (t : List ℕ). OnOk c.put_beside_lines.result (string_bytes c.put_beside_lines.new.text ≡ t)) all c.put_beside_lines.ensures

pub returns-in_ok-put_family-in-Ip6 : goal.returns-in_ok-put_family-in-Ip6
returns-in_ok-put_family-in-Ip6 c =
    let all : string_bytes c.put_family-in-Ip6.new.text ++ flat_map (beside_line (codes "  mp_withdrawn ") ipv6_text) (beside (prefixes_left c.in-Ip6.routes) (numbers_left c.of_ip6-numbers.result))
    ≡ string_bytes c.args.text.now ++ path_unreach_lines (numbers4 c.args.run) (numbers6 c.args.run) (unreach_value c.args.unreach) =
    rw (c.in-Ip6.is, c.in_ok-put_family-in-Ip6.ensures, c.of_ip6-numbers.ensures) (simp append_assoc) in
    subst (λ (t : List ℕ). OnOk c.put_beside_lines-in-Ip6.result (string_bytes c.put_beside_lines-in-Ip6.new.text ≡ t)) all c.put_beside_lines-in-Ip6.ensures
