use Rattle.bgp_clean.specs.declared.part.Part.{Part}
use Rattle.bgp_clean.proofs.updates.put_gone.Goals as goal

pub put_part-requires : goal.put_part-requires
put_part-requires g c = c.requires Part.Gone
