-- Re-exports the names that other crates and the proofs cite. Declares nothing.
pub use Rattle.bgp_fields.specs.Walk.{Plan, Telling, fit, group_from, told, walk_within}
unfoldable pub use Rattle.bgp_fields.specs.Walk.{walk}
pub use Rattle.bgp_fields.specs.Parts.{afi_len, alone, are_identified, attribute_len, attribute_value, attribute_values, behind, behind_family, behind_number, body_part, capability_behind, capability_value, first_of, hop_behind, hop_plan, is_segment, leaf, message_plan, message_plan_in, nlri_plan, nothing_in_section, nothing_inside, numbers_behind, one, opening, parameter_value, plain_reading, prefix_len, reach_prefixes, routes_plan, section_plan, section_plan_in, two_of, value_plan, value_plan_in, width_of, withdrawn_plan}
pub use Rattle.bgp_fields.specs.Fields.{fields_of, message_fields, message_fields_in, no_fields, path_fields, refresh_fields, section_fields, section_fields_in, value_fields, value_fields_in}
pub use Rattle.bgp_fields.specs.FieldIter.{fields_left, message_at, section_at}
pub use Rattle.bgp_fields.specs.Laws.{AllRead, AreTheOctets, Tiles, is_unread, lone_field, octets_in, refresh_rest, refresh_row}
pub use Rattle.bgp_fields.specs.Shown.{ShowsRoutes, ShowsWithdrawal, is_nlri_prefix, is_reach_prefix4, is_reach_prefix6, is_unreach_prefix4, is_unreach_prefix6, is_withdrawn_prefix, prefix_alone, prefix_in, prefix_width, prefixes_shown}
pub use Rattle.bgp_fields.specs.Places.{ArePlaced, HasPlace, IsResetPlace, asking_place, asks_for, attribute_extent, attribute_place, bad_prefix, body_place, capability_place, first_asking, first_other, front_place, header_place, is_attribute, item_extent, length_place, note_place, note_place_in, open_place, parameter_place, parameters_place, parts_place, reset_place, run_place, says_missing, span, update_place}
pub use Rattle.bgp_fields.specs.Causes.{answered_cause, asked_cause, attribute_cause, cause_of_test, header_fault, reset_cause, reset_fault, update_cause}
pub use Rattle.bgp_fields.specs.steps.Heads.{IsHead, head_fields}
pub use Rattle.bgp_fields.specs.steps.Listing.{listed}
pub use Rattle.bgp_fields.specs.steps.Plans.{message_planned, section_planned, value_planned}
pub use Rattle.bgp_fields.specs.steps.Sections.{sections_value}
