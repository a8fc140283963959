-- Re-exports the names that other crates and the proofs cite. Declares nothing.
pub use Rattle.bgp_update.specs.Parts.{IsBody, Parts, attributes_at, behind_two}
unfoldable pub use Rattle.bgp_update.specs.Parts.{parts_of}
pub use Rattle.bgp_update.specs.Marks.{Mark, carries_routes, cut, cut_kind, cut_mark, judged_behind, malformed, marks_behind, marks_of, placed_tlvs, repeated}
unfoldable pub use Rattle.bgp_update.specs.Marks.{field_marks}
pub use Rattle.bgp_update.specs.Fields.{as_as4_path, as_as_path, as_communities, as_large, as_mp_reach, as_mp_unreach, as_opaque, is_opaque, present, slots}
unfoldable pub use Rattle.bgp_update.specs.Fields.{attrs_from}
pub use Rattle.bgp_update.specs.Taken.{attrs_of, first_known, kept_by, kept_of, no_attrs, put_rising, rising_behind, update_of}
pub use Rattle.bgp_update.specs.Notes.{gone_ip4, gone_ip6, has_routes, has_type, is_missing, is_reachable, mark_notes, missing_in, missing_note, missing_notes, missing_of, notes_of, reached_ip4, reached_ip6, routes_of, types_of_field, why_not}
pub use Rattle.bgp_update.specs.Verdict.{bad_network, first_reset, has_value, is_withdrawn, of_parts, reset_by, reset_of, reset_of_run, unless_reset, verdict_of, verdict_on, withdraws, without_reset}
pub use Rattle.bgp_update.specs.Slots.{attr_list, types_from}
unfoldable pub use Rattle.bgp_update.specs.Slots.{canonical_order, slot}
pub use Rattle.bgp_update.specs.Written.{HasUpdateRanges, announces, any_attr, attributes_octets, body_octets, has_bad_others, has_needless_next_hop, has_outside_preference, invalid_of, lacks_some, refused_if, rise, rise_behind, written_body}
pub use Rattle.bgp_update.specs.As4.{HasNoAs4, front_by, is_as_trans, items_behind, items_by, items_in, items_of, joined, lead, narrow_aggregator, narrow_number, narrow_path, narrow_segment, narrowed, narrowed_update, onward_of, rebuilt, rebuilt_by, rebuilt_path, wide_aggregator, wide_path}
pub use Rattle.bgp_update.specs.Widths.{with_as4}
pub use Rattle.bgp_update.specs.Body.{parts_value}
pub use Rattle.bgp_update.specs.MarkIter.{IsRuledNext, cut_value, judged_next, marks_left, ruled_value}
pub use Rattle.bgp_update.specs.Places.{ArePlaced, IsKeptAs, placed_also, tlv_placed}
pub use Rattle.bgp_update.specs.KeptView.{AreOf, Kept, kept_behind, kept_in, kept_tlv, kept_value, kept_with, known_of, known_value, saw, with_others}
pub use Rattle.bgp_update.specs.ByType.{IsByType}
pub use Rattle.bgp_update.specs.Found.{found_at}
pub use Rattle.bgp_update.specs.Summary.{SummaryValue, is_noted, marks_ahead, seen_by, summary_behind, summary_of, summary_value}
pub use Rattle.bgp_update.specs.View.{found_value, notes_value, routes_value, update_among, update_value, view_marks, view_value}
pub use Rattle.bgp_update.specs.Iters.{attrs_left, notes_left}
pub use Rattle.bgp_update.specs.Chosen.{chosen_update}
pub use Rattle.bgp_update.specs.PathInfoView.{info_value, joined_left, joined_value}
pub use Rattle.bgp_update.specs.Laws.{CanBeWritten, HasMarkBehind, IsMarkBehind, IsRepeated, stands_in}
pub use Rattle.bgp_update.specs.Told.{CanBeTold}
pub use Rattle.bgp_update.specs.Withdrawal.{gone_octets, whole_unreach, withdrawal_octets}
pub use Rattle.bgp_update.specs.steps.Failed.{also_failed, failed_by, first_of}
pub use Rattle.bgp_update.specs.steps.Layout.{LaysOut}
pub use Rattle.bgp_update.specs.steps.Others.{place_in}
pub use Rattle.bgp_update.specs.steps.Small.{is_small}
pub use Rattle.bgp_update.specs.steps.ToldSlot.{told_attrs}
