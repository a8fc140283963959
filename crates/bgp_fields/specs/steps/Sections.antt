-- The values of borrowed sections of a body.
use Rattle.bgp_update.specs.Prelude.{Parts}
use Rattle.bgp_fields.specs.declared.sections.Sections.{Sections}

abbrev pub sections_value : Sections → Parts
sections_value s = record { withdrawn = s.withdrawn.now; attributes = s.attributes.now; nlri = s.nlri.now }
