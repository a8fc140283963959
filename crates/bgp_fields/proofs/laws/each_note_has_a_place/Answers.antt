use Rattle.bgp_fields.proofs.PlacedNotes.{taken-notes}
use Rattle.bgp_fields.proofs.laws.each_note_has_a_place.Goals as goal

pub returns : goal.returns
returns c = taken-notes
