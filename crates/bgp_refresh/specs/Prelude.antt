-- Re-exports the names that other crates and the proofs cite. Declares nothing.
pub use Rattle.bgp_refresh.specs.Refresh.{IsCanonical, Refresh, is_bound, is_nothing, mark_of, refresh_body, refresh_header, refresh_octets, refresh_of, refresh_value, subtype_of}
pub use Rattle.bgp_refresh.specs.Fault.{refresh_notification}
