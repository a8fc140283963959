use Rattle.bgp_fields.proofs.Prelude.{◌≡◌, ◌≤◌, ◌+◌, length, value_fields_in}
use Rattle.bgp_fields.proofs.Listings.{IsListing}
use Rattle.bgp_fields.proofs.listing.list_row.Given as goal

abbrev pub invariant-row : goal.invariant-row
invariant-row g l = record {
  listing : IsListing g.row.T.Denot g.T.Listed.told (value_fields_in l.fn.reading l.fn.part l.fn.first.at l.fn.first.group l.fn.octets) (value_fields_in l.fn.reading l.fn.part l.at l.fn.first.group l.left) l.fn.count l.taken l.fn.list l.list;
  few : l.taken ≤ l.at;
  ends : l.at + length l.left ≡ l.fn.first.at + length l.fn.octets;
}

abbrev pub decreases-row : goal.decreases-row
decreases-row g l = length l.left
