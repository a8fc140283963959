-- The chosen attributes of an UPDATE: without those of the types that are left out.
use Rattle.std.specs.Prelude.{not, List}
use Rattle.std.specs.List.{filter}
use Rattle.bgp_wire.specs.Prelude.{has_octet}
use Rattle.bgp_attr.specs.declared.opaque.Opaque.{Opaque}
use Rattle.bgp_update.specs.declared.attrs.Attrs.{Attrs}
use Rattle.bgp_update.specs.declared.chosen.Chosen.{Chosen}
use Rattle.bgp_update.specs.declared.update.Update.{Update}
use Rattle.bgp_update.specs.KeptView.{with_others}
use Rattle.bgp_update.specs.View.{update_value, update_among}

-- those of unrecognised types
abbrev pub chosen_others : Chosen → List Opaque
chosen_others c = filter (λ o. not (has_octet c.drops.now o.kind)) (update_value c.view.now).attrs.others

-- all of them
abbrev pub chosen_attrs : Chosen → Attrs
chosen_attrs c = with_others c.view.now.summary.kept (chosen_others c)

-- the UPDATE with them
abbrev pub chosen_update : Chosen → Update
chosen_update c = update_among c.view.now (chosen_others c)
