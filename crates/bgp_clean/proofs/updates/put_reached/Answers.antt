use Rattle.bgp_clean.specs.declared.part.Part.{Part}
use Rattle.bgp_clean.proofs.updates.put_reached.Goals as goal

pub announce-requires-clause-put : goal.announce-requires-clause-put
announce-requires-clause-put g c = c.requires Part.Reached

pub announce-requires-clause-gone : goal.announce-requires-clause-gone
announce-requires-clause-gone g c = c.requires Part.ReachedGone
