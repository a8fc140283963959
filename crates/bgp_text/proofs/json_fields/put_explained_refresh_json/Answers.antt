use Rattle.bgp_text.proofs.Prelude.{◌≡◌, ◌++◌, ℕ, List, [], OnOk, subst, map, append_assoc, ap, sym, ◌∙◌, string_bytes, fields_left, plain_field}
use Rattle.bgp_text.specs.Below.{Field, Refresh, refresh_fields, refresh_value}
use Rattle.bgp_text.specs.Json.{line_end}
use Rattle.bgp_text.specs.JsonFields.{explained_refresh_json, fields_member, noted_members}
use Rattle.bgp_text.specs.JsonRefresh.{refresh_members}
use Rattle.bgp_text.proofs.ToldFields.{plain_members}
use Rattle.bgp_text.proofs.json_fields.put_explained_refresh_json.Goals as goal

pub returns : goal.returns
returns c =
    let old : List ℕ = string_bytes c.args.text.now in
    let octets : List ℕ = c.args.octets.now in
    let refresh : Refresh = refresh_value c.args.refresh.now in
    let members : List ℕ = refresh_members c.args.place c.args.len refresh in
    let found : List Field = fields_left c.of_refresh.result in
    let listed : List ℕ = fields_member octets (map plain_field found) in
    let first : string_bytes c.put_refresh_members.new.text ≡ old ++ members = c.in_ok-put_refresh_members.ensures in
    let second : string_bytes c.put_plain.new.text ≡ string_bytes c.put_refresh_members.new.text ++ listed = c.in_ok-put_plain.ensures in
    let fields : listed ≡ noted_members octets [] (refresh_fields c.args.ctx.now octets) =
    sym (plain_members octets found) ∙ ap (λ (fs : List Field). noted_members octets [] fs) c.of_refresh.ensures in
    let all : string_bytes c.put_plain.new.text ++ line_end ≡ old ++ explained_refresh_json c.args.ctx.now c.args.place c.args.len octets refresh =
    ap (λ (t : List ℕ). t ++ line_end) (second ∙ ap (λ (t : List ℕ). t ++ listed) first)
    ∙ (append_assoc (old ++ members) listed line_end ∙ append_assoc old members (listed ++ line_end))
    ∙ ap (λ (t : List ℕ). old ++ (members ++ (t ++ line_end))) fields in
    subst (λ (t : List ℕ). OnOk c.put_line_end.result (string_bytes c.put_line_end.new.text ≡ t)) all c.put_line_end.ensures
