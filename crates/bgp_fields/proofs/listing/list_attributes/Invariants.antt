use Rattle.bgp_fields.proofs.Prelude.{◌≡◌, ◌≤◌, ◌+◌, length, SectionPart, section_fields_in}
use Rattle.bgp_fields.proofs.Listings.{IsListing}
use Rattle.bgp_fields.proofs.listing.list_attributes.Given as goal

abbrev pub invariant-attributes : goal.invariant-attributes
invariant-attributes g l = record {
  listing : IsListing g.row.T.Denot g.T.Listed.told (section_fields_in l.fn.reading SectionPart.AttributeFlags l.fn.at l.fn.group l.fn.octets) (section_fields_in l.fn.reading SectionPart.AttributeFlags l.place l.holder l.left) l.fn.count l.taken l.fn.list l.list;
  few : l.taken ≤ l.place;
  ends : l.place + length l.left ≡ l.fn.at + length l.fn.octets;
}

abbrev pub decreases-attributes : goal.decreases-attributes
decreases-attributes g l = length l.left
