use Rattle.bgp_fields.proofs.Prelude.{◌≡◌, ◌≤◌, ◌+◌, length, section_fields_in}
use Rattle.bgp_fields.proofs.Listings.{IsListing}
use Rattle.bgp_fields.proofs.listing.list_any_section.Given as goal

abbrev pub invariant-section : goal.invariant-section
invariant-section g l = record {
  listing : IsListing g.row.T.Denot g.T.Listed.told (section_fields_in l.fn.reading l.fn.part l.fn.at l.fn.group l.fn.octets) (section_fields_in l.fn.reading l.next l.place l.holder l.left) l.fn.count l.taken l.fn.list l.list;
  few : l.taken ≤ l.place;
  ends : l.place + length l.left ≡ l.fn.at + length l.fn.octets;
}

abbrev pub decreases-section : goal.decreases-section
decreases-section g l = length l.left
