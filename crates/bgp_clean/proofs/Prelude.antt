-- The names of std, of the crates below and of this crate that its proofs cite, passed on from one place. Declares nothing.
pub use Rattle.bgp_wire.proofs.Std.{AllByRecursion, Bool, Err, List, None, Ok, OnOk, Option, Result, Some, [], and_parts, and_right, ap, ap₂, arith, both_ways, cond, cond-false, drop, eqb, eqb-true, false, false≢true, filter, flat_map, flat_map-append, from_be_bytes, if◌then◌else◌, inl, inr, le-ltb, length, length-append, length-drop, list_any, ltb, ltb-false, map, ne_eqb, nil_from_length, not, not-false, not_from_false, not_from_true, on_ok_weaker, option_or, or_from, or_parts, refl, subst, suc, sym, take, true, true≢false, unwrap_or, w16, w32, zero, ℕ, ◌&&◌, ◌++◌, ◌+◌, ◌<◌, ◌^◌, ◌||◌, ◌∙◌, ◌∷◌, ◌≡◌, ◌≤◌, ◌⊎◌}
pub use Rattle.std.proofs.lemmas.List.{append-nil}
pub use Rattle.std.proofs.lemmas.Option.{none-some, same_Some}
pub use Rattle.std.specs.Prelude.{is_some, slice_index}
pub use Rattle.bgp_numbers.specs.declared.afi.TheConstants.{IPV4, IPV6}
pub use Rattle.bgp_numbers.specs.declared.attribute.TheConstants.{MP_REACH_NLRI, MP_UNREACH_NLRI}
pub use Rattle.bgp_wire.specs.Prelude.{AreOctets, Row, has_octet}
pub use Rattle.bgp_wire.proofs.OctetLemmas.{AreOctets-back, AreOctets-drop, AreOctets-front}
pub use Rattle.bgp_prefix.specs.Prelude.{IsPrefix, IsValid, PrefixValue, run_of, spelling_of}
pub use Rattle.bgp_prefix.proofs.LawLemmas.{Row-rewritten, row_is_run}
pub use Rattle.bgp_frame.specs.Prelude.{IsFrame, IsLength, Waits, header, message_in, notification_of_view, octets_of}
pub use Rattle.bgp_frame.specs.declared.kind.Kind.{Kind}
pub use Rattle.bgp_frame.specs.declared.notification.Notification.{Notification}
pub use Rattle.bgp_frame.proofs.FrameLemmas.{length-IsFrame, length-octets_of, wanted-bounds}
pub use Rattle.bgp_open.specs.Prelude.{HasRange, IsCapability, IsOpen, IsParameter, as4_of, body_octets, capabilities_left, capability_octets, first_as4, is_bad, is_bad_row, is_misnamed, is_short_hold, is_unicast, is_zero_id, joined, multi_of, open_notification, open_value, parameter_octets, parameters_of, peer_as_of, reading_of, row_octets}
pub use Rattle.bgp_open.specs.declared.capability.Capability.{Capability}
pub use Rattle.bgp_open.specs.declared.capability.Capability.TheVariants.{As4, Multi, Other}
pub use Rattle.bgp_open.specs.declared.context.Context.{Context}
pub use Rattle.bgp_open.specs.declared.fault.OpenFault.{OpenFault}
pub use Rattle.bgp_open.specs.declared.message.Open.{Open}
pub use Rattle.bgp_attr.specs.Prelude.{Belongs, HasRanges, canonical, entry_of, has_as_zero, has_entry, is_as4, is_empty, is_out_of_place, is_recognised, is_too_wide, is_writable, link_octets, run_octets, stands_twice, value_octets}
pub use Rattle.bgp_attr.specs.declared.attr.Attr.{Attr}
pub use Rattle.bgp_attr.specs.declared.mp.MpReach.{MpReach}
pub use Rattle.bgp_attr.specs.declared.mp.MpUnreach.{MpUnreach}
pub use Rattle.bgp_attr.specs.declared.opaque.Opaque.{Opaque}
pub use Rattle.bgp_update.specs.Parts.{has_nlri}
pub use Rattle.bgp_update.specs.Prelude.{CanBeWritten, HasUpdateRanges, IsBody, Mark, Parts, announces, any_attr, attr_list, attributes_octets, attrs_of, carries_routes, chosen_update, field_marks, first_reset, gone_ip4, gone_ip6, gone_octets, has_bad_others, has_routes, is_reachable, kept_by, kept_of, marks_of, no_attrs, notes_value, parts_of, present, reached_ip4, reached_ip6, reset_of, reset_of_run, rise, routes_of, routes_value, slots, types_from, update_of, update_value, verdict_of, whole_unreach, withdrawal_octets, written_body}
unfoldable pub use Rattle.bgp_update.specs.Prelude.{attrs_from, canonical_order, slot}
pub use Rattle.bgp_update.specs.declared.attrs.Attrs.{Attrs}
pub use Rattle.bgp_update.specs.declared.invalid.Invalid.{Invalid}
pub use Rattle.bgp_update.specs.declared.note.Note.{Note}
pub use Rattle.bgp_update.specs.declared.routes.Routes.{Routes}
pub use Rattle.bgp_update.specs.declared.update.Update.{Update}
pub use Rattle.bgp_update.specs.declared.verdict.Verdict.{Verdict}
pub use Rattle.bgp_update.proofs.Bodies.{body-parts, length-body}
pub use Rattle.bgp_update.proofs.Lists.{all-append, all-back, all-carried, all-front, all-none, none-all}
pub use Rattle.bgp_update.proofs.ReadBack.{none-long, short-writable, valid-taken, valid-writable}
pub use Rattle.bgp_update.proofs.SlotLemmas.{field-all, other_slot, slot-at, slot-other}
pub use Rattle.bgp_update.proofs.SlotTypes.{recognised_types}
pub use Rattle.bgp_update.proofs.Taken.{row-some, run-row, taken-written}
pub use Rattle.bgp_update.proofs.Validity.{IsAccepted, accepted-valid, valid-accepted}
pub use Rattle.bgp_update.proofs.Verdicts.{has-parts, taken-of, withdrawn-of}
pub use Rattle.bgp_msg.specs.Prelude.{HasMessageRanges, IsTakenAsItself, body_of, invalid_of, is_reset, kind_of, notification_in, notification_octets, of_body, of_open_fault, of_reading, of_verdict, out_of, outcome_value, stream_rules, written}
pub use Rattle.bgp_msg.specs.declared.message.Message.{Message}
pub use Rattle.bgp_msg.specs.declared.outcome.Outcome.{Outcome}
pub use Rattle.bgp_clean.specs.Prelude.{Announced, AreNoLonger, AreUnchanged, IsClean, IsCleanStream, IsCleanWith, IsCleaned, Lesson, NoLonger, Seen, all_of, announced_lesson, announced_nlri, announced_reached, bare_attrs, bare_family, both, cleaned, cleaned_attrs, cleaned_each, cleaned_from, cleaned_open, cleaned_open_with, cleaned_outcome, cleaned_with, cleaned_stream, cleaned_update, end_of, end_of_rib, end_unreach, ended_family, family_in, family_of_kept, family_of_marks, gone_lesson, gone_routes, goes_on, handed, handed_then, handed_update, has_any, hop_of, hop_part, is_multi, joined_messages, lacks_family, lesson, lesson_by, lesson_from, lesson_in, lesson_of, link_of, listed, nlri_part, nlri_routes, no_lesson, none_seen, octets_handed, or_keepalive, outcome_of, parts_handed, reach_left, reached_part, reached_routes, refuses_in, seen_behind, seen_for, seen_value, taught_by, understood, understood_behind, understood_with, unless_refused, unreach_of, withdrawal}
pub use Rattle.bgp_clean.specs.declared.fault.CleanFault.{CleanFault}
