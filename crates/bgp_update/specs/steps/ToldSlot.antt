-- The attributes that are sent to a 2-octet-AS peer, while their values are borrowed.
use Rattle.std.specs.Prelude.{List}
use Rattle.bgp_attr.specs.declared.opaque.OpaqueView.{OpaqueView}
use Rattle.bgp_update.specs.declared.attrs.Attrs.{Attrs}
use Rattle.bgp_update.specs.declared.kept_view.KeptView.{KeptView}
use Rattle.bgp_update.specs.As4.{narrowed}
use Rattle.bgp_update.specs.KeptView.{attrs_with}

-- the attributes that are sent where these are kept
abbrev pub told_attrs : KeptView → List OpaqueView → Attrs
told_attrs kept others = narrowed (attrs_with kept others)
