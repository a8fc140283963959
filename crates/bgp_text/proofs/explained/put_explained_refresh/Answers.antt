use Rattle.bgp_text.proofs.Prelude.{◌≡◌, ◌++◌, ℕ, List, [], OnOk, subst, ap, sym, ◌∙◌, append_assoc, flat_map, string_bytes, fields_left, plain_line, noted_lines}
use Rattle.bgp_text.specs.Below.{Field, Refresh, refresh_fields, refresh_value}
use Rattle.bgp_text.specs.Explained.{explained_refresh}
use Rattle.bgp_text.specs.RefreshLine.{refresh_line}
use Rattle.bgp_text.proofs.FieldLines.{without_notes}
use Rattle.bgp_text.proofs.explained.put_explained_refresh.Goals as goal

pub returns : goal.returns
returns c =
    let old : List ℕ = string_bytes c.args.text.now in
    let octets : List ℕ = c.args.octets.now in
    let refresh : Refresh = refresh_value c.args.refresh.now in
    let line : List ℕ = refresh_line c.args.place c.args.len refresh in
    let found : List Field = fields_left c.of_refresh.result in
    let first : string_bytes c.put_refresh.new.text ≡ old ++ line = c.in_ok-put_refresh.ensures in
    let fields : flat_map (plain_line octets) found ≡ noted_lines octets 0 [] (refresh_fields c.args.ctx.now octets) =
    sym (without_notes octets found) ∙ ap (λ (fs : List Field). noted_lines octets 0 [] fs) c.of_refresh.ensures in
    let all : string_bytes c.put_refresh.new.text ++ flat_map (plain_line octets) found ≡ old ++ explained_refresh c.args.ctx.now c.args.place c.args.len octets refresh =
    ap (λ (t : List ℕ). t ++ flat_map (plain_line octets) found) first ∙ append_assoc old line (flat_map (plain_line octets) found)
    ∙ ap (λ (t : List ℕ). old ++ (line ++ t)) fields in
    subst (λ (t : List ℕ). OnOk c.put_plain_fields.result (string_bytes c.put_plain_fields.new.text ≡ t)) all c.put_plain_fields.ensures
