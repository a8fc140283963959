use Rattle.bgp_fields.proofs.PlacedNotes.{withdrawn-notes}
use Rattle.bgp_fields.proofs.laws.each_note_on_a_withdrawal_has_a_place.Goals as goal

pub returns : goal.returns
returns c = withdrawn-notes
