use Rattle.bgp_fields.proofs.Prelude.{◌≡◌, ◌≤◌, ◌+◌, length, None, message_fields_in}
use Rattle.bgp_fields.proofs.Listings.{IsListing}
use Rattle.bgp_fields.proofs.listing.list_message.Given as goal

abbrev pub invariant-message : goal.invariant-message
invariant-message g l = record {
  listing : IsListing g.row.T.Denot g.T.Listed.told (message_fields_in l.fn.reading l.fn.part l.fn.at None l.fn.octets) (message_fields_in l.fn.reading l.next l.place None l.left) l.fn.count l.taken l.fn.list l.list;
  few : l.taken ≤ l.place;
  ends : l.place + length l.left ≡ l.fn.at + length l.fn.octets;
}

abbrev pub decreases-message : goal.decreases-message
decreases-message g l = length l.left
