-- The parts of a borrowed body.
use Rattle.bgp_update.specs.declared.body.Body.{Body}
use Rattle.bgp_update.specs.Parts.{Parts}

abbrev pub parts_value : Body → Parts
parts_value b = record { withdrawn = b.withdrawn.now; attributes = b.attributes.now; nlri = b.nlri.now }
