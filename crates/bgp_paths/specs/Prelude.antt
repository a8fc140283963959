-- Re-exports the names that other crates and the proofs cite. Declares nothing.
pub use Rattle.bgp_paths.specs.Families.{identified, path_families, width_of}
pub use Rattle.bgp_paths.specs.Route.{IsPathPrefix, PathPrefixValue, identified_by, path_prefix_value, path_prefixes, path_run_of}
unfoldable pub use Rattle.bgp_paths.specs.Route.{one_path_prefix}
pub use Rattle.bgp_paths.specs.PathIter.{paths_left}
pub use Rattle.bgp_paths.specs.Plain.{head_length, left_over, octets_of_parts, parts_in, plain_at, plain_attribute, plain_behind, plain_body, plain_field, plain_of, plain_parts, plain_routes, plain_run, plain_tlv, value_at}
pub use Rattle.bgp_paths.specs.Runs.{ArePartRuns, AreRuns, attribute_run, attribute_run_in, family_run, field_run, first_or_zero, later_of, numbers_left, numbers_of, run_behind, run_of_type, runs_value}
pub use Rattle.bgp_paths.specs.Places.{carries, data_in, first_of_type, first_tlv, place_between, place_in_parts, received_in, shift_between, shift_by, shift_value, shifted, type_at}
pub use Rattle.bgp_paths.specs.Numbers.{PathNumbers, attribute_numbers, family_numbers, no_numbers, numbers4, numbers6, numbers_behind, numbers_in, path_numbers}
pub use Rattle.bgp_paths.specs.Outcome.{as_received, outcome_with}
pub use Rattle.bgp_paths.specs.PathBody.{FieldNumbers, body_of, body_with, field_numbers, field_with, fields_in, mp_flags, mp_tlv, no_field_numbers, numbers_for, octets_with, paired, parts_with, route_octets, routes_with, run_with, tlv_at_head, tlv_behind, tlv_with, with_numbers}
