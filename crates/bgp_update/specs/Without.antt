-- An UPDATE without some of its attributes of unrecognised types.
use Rattle.std.specs.Prelude.{ℕ, Bool, not}
use Rattle.std.specs.List.{filter}
use Rattle.bgp_update.specs.declared.attrs.Attrs.{Attrs}
use Rattle.bgp_update.specs.declared.update.Update.{Update}

-- without those of unrecognised types that are left out
abbrev pub attrs_without : (ℕ → Bool) → Attrs → Attrs
attrs_without drops a = record a { others = filter (λ o. not (drops o.kind)) a.others }

abbrev pub update_without : (ℕ → Bool) → Update → Update
update_without drops u = record u { attrs = attrs_without drops u.attrs }
