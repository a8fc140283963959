use Rattle.bgp_fields.proofs.Prelude.{◌≡◌, ◌≤◌, ◌+◌, length, value_fields_in}
use Rattle.bgp_fields.proofs.Listings.{IsListing}
use Rattle.bgp_fields.proofs.listing.list_value.Given as goal

abbrev pub invariant-value : goal.invariant-value
invariant-value g l = record {
  listing : IsListing g.row.T.Denot g.T.Listed.told (value_fields_in l.fn.reading l.fn.part l.fn.at l.fn.group l.fn.octets) (value_fields_in l.fn.reading l.next l.place l.holder l.left) l.fn.count l.taken l.fn.list l.list;
  few : l.taken ≤ l.place;
  ends : l.place + length l.left ≡ l.fn.at + length l.fn.octets;
}

abbrev pub decreases-value : goal.decreases-value
decreases-value g l = length l.left
