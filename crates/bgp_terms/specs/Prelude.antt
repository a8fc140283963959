-- Re-exports the names that other crates and the proofs cite. Declares nothing.
pub use Rattle.bgp_terms.specs.Families.{also_family, families_in, has_family, is_family, one_or_none, opaque_families, opaque_of, shared_families, sharing}
pub use Rattle.bgp_terms.specs.Paths.{does, has_role, offers_role}
pub use Rattle.bgp_terms.specs.Offers.{Offered, has_hop6, is_hop6, is_hop_row, is_nothing, no_offer, offered_by, offered_in, offering_more, offers_hop6, offers_more, offers_plain}
pub use Rattle.bgp_terms.specs.Terms.{Agreed, plain_terms, refreshes_of, terms_of, terms_sent, terms_with, wide_terms}
