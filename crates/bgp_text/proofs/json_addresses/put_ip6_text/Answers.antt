use Rattle.std.proofs.Common.{◌≡◌, codes, sym, ap, ◌∙◌, refl, rules}
use Rattle.std.specs.Net.Text.{hex_groups_text}
use Rattle.bgp_text.specs.JsonAddress.{ip6_text}
use Rattle.bgp_text.proofs.json_addresses.put_ip6_text.Goals as goal

pub returns-then-is_unspecified : goal.returns-then-is_unspecified
unfolding ip6_text hex_groups_text
returns-then-is_unspecified c =
    let zeros : ip6_text c.args.address ≡ codes "::" = ap hex_groups_text (sym c.from_octets-address.ensures ∙ c.if-is_unspecified.ensures.0 refl) in
    rw zeros (search rules)
