use Rattle.bgp_wire.proofs.Std.{◌≡◌, true, List, ◌++◌, map, OnOk, ap, ap₂, sym, subst, ◌∙◌, AllByRecursion}
use Rattle.bgp_attr.specs.Prelude.{opaque_value, is_writable}
use Rattle.bgp_attr.specs.declared.opaque.Opaque.{Opaque}
use Rattle.bgp_attr.specs.declared.opaque.OpaqueView.{OpaqueView}
use Rattle.bgp_update.specs.declared.attrs.Attrs.{Attrs}
use Rattle.bgp_update.specs.declared.kept_view.KeptView.{KeptView}
use Rattle.bgp_update.specs.KeptView.{known_of, known_value}
use Rattle.bgp_update.specs.Prelude.{narrowed, attr_list, attributes_octets, update_value, told_attrs}
use Rattle.bgp_update.proofs.view_narrowing.put_told.Goals as goal

-- what is sent is what the attributes say
same : (kept : KeptView) (others row : List OpaqueView) (a : Attrs) → known_value kept ≡ known_of a → others ≡ row → map opaque_value row ≡ a.others → told_attrs kept others ≡ narrowed a
same kept others row a known e found = ap₂ (λ (k : Attrs) (os : List Opaque). narrowed (record k { others = os })) known (ap (λ (os : List OpaqueView). map opaque_value os) e ∙ found)

pub put_told_attrs-requires-clause-writable : goal.put_told_attrs-requires-clause-writable
put_told_attrs-requires-clause-writable c =
    let is = same c.kept.result.now c.new-sorted.result.row.now c.in_ok-others.others (update_value c.args.view.now).attrs c.kept.ensures.known (ap (λ b. b.now) c.new-sorted.ensures ∙ c.as_slice.ensures) c.in_ok-others.ensures.value in
    subst (λ (a : Attrs). AllByRecursion (λ x. is_writable c.args.ctx.now x ≡ true) (attr_list a)) (sym is) c.requires.writable

pub returns-clause-ok : goal.returns-clause-ok
returns-clause-ok c =
    let is = same c.kept.result.now c.new-sorted.result.row.now c.in_ok-others.others (update_value c.args.view.now).attrs c.kept.ensures.known (ap (λ b. b.now) c.new-sorted.ensures ∙ c.as_slice.ensures) c.in_ok-others.ensures.value in
    subst (λ (a : Attrs). OnOk c.put_told_attrs.result (c.put_told_attrs.new.out.items ≡ c.args.out.now.items ++ attributes_octets c.args.ctx.now a)) is c.put_told_attrs.ensures.ok
