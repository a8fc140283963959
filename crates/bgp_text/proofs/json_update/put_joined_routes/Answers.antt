use Rattle.bgp_text.proofs.Prelude.{◌≡◌, ◌++◌, ℕ, List, [], OnOk, subst, ap, sym, ◌∙◌, append_assoc, flat_map, string_bytes, PrefixValue, behind_comma}
use Rattle.bgp_text.proofs.Prelude.{joined}
use Rattle.bgp_text.specs.JsonAddress.{prefix4_json, prefix6_json}
use Rattle.bgp_text.proofs.JsonLists.{joined_second, joined_both}
use Rattle.bgp_text.proofs.json_update.put_joined_routes.Goals as goal

pub returns-then-is_empty : goal.returns-then-is_empty
returns-then-is_empty c =
    let none : c.args.routes.now.ip4 ≡ [] = c.is_empty.ensures.0 c.if-is_empty.true in
    let same = ap (λ (ip6 : List PrefixValue). joined prefix6_json ip6) c.as_slice-ip6.ensures in
    let lists = same ∙ sym (joined_second prefix4_json prefix6_json c.args.routes.now.ip4 c.args.routes.now.ip6 none) in
    subst (λ (t : List ℕ). OnOk c.put_joined.result (string_bytes c.put_joined.new.text ≡ string_bytes c.args.text.now ++ t)) lists c.put_joined.ensures

pub returns : goal.returns
returns c =
    let some : ¬ (c.args.routes.now.ip4 ≡ []) = λ (none : c.args.routes.now.ip4 ≡ []).
    let wrong = sym c.if-is_empty.false ∙ c.is_empty.ensures.1 none in cc in
    let first : string_bytes c.put_joined-2.new.text ≡ string_bytes c.args.text.now ++ joined prefix4_json c.as_slice.result.now = c.in_ok-put_joined.ensures in
    let later : List ℕ = flat_map (behind_comma prefix6_json) c.as_slice-ip6.result.now in
    let same4 = ap (λ (ip4 : List PrefixValue). joined prefix4_json ip4 ++ later) c.as_slice.ensures in
    let same6 = ap (λ (ip6 : List PrefixValue). joined prefix4_json c.args.routes.now.ip4 ++ flat_map (behind_comma prefix6_json) ip6) c.as_slice-ip6.ensures in
    let lists = joined_both prefix4_json prefix6_json c.args.routes.now.ip4 c.args.routes.now.ip6 some in
    let all = ap (λ (t : List ℕ). t ++ later) first
    ∙ (append_assoc (string_bytes c.args.text.now) (joined prefix4_json c.as_slice.result.now) later
    ∙ ap (λ (t : List ℕ). string_bytes c.args.text.now ++ t) (same4 ∙ (same6 ∙ sym lists))) in
    subst (λ (t : List ℕ). OnOk c.put_further.result (string_bytes c.put_further.new.text ≡ t)) all c.put_further.ensures
