use Rattle.bgp_clean.proofs.Prelude.{◌≡◌, ℕ, List, ◌++◌, ◌+◌, length, ap, ◌∙◌, on_ok_weaker, Kind, header, Capability, open_value, body_octets, row_octets}
use Rattle.bgp_clean.proofs.Prelude.{cleaned_open_with, understood_with}
use Rattle.bgp_open.specs.Prelude.{canonical}
use Rattle.bgp_clean.proofs.opens.put_open.Goals as goal

pub returns-clause-ok : goal.returns-clause-ok
returns-clause-ok g c =
    let o = open_value c.args.view.now in
    let row : c.deref.result.now ≡ row_octets (understood_with c.args.offers o.caps) =
    c.deref.ensures.0 ∙ c.understood-row.ensures ∙ ap (λ (caps : List Capability). row_octets (understood_with c.args.offers caps)) c.capabilities.ensures in
    let body : c.as_slice.result.now ≡ canonical (cleaned_open_with c.args.offers o) =
    c.as_slice.ensures.value ∙ c.open_body-body.ensures.octets
    ∙ ap (λ (field : ℕ). body_octets field c.hold.result c.id.result c.deref.result.now) c.as_field.ensures
    ∙ ap (λ (hold : ℕ). body_octets o.as_field hold c.id.result c.deref.result.now) c.hold.ensures
    ∙ ap (λ (id : List ℕ). body_octets o.as_field o.hold id c.deref.result.now) c.id.ensures
    ∙ ap (λ (r : List ℕ). body_octets o.as_field o.hold o.id r) row in
    on_ok_weaker c.put_whole.result (λ e. e ∙ ap (λ (b : List ℕ). g.O.Output.written c.args.out.now ++ (header Kind.Open (19 + length b) ++ b)) body) c.put_whole.ensures.ok
