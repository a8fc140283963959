-- Re-exports the names of std, of the crates below and of this crate that its proofs cite. Declares nothing.
pub use Rattle.bgp_wire.proofs.Std.{AllByRecursion, Bool, Err, List, None, Ok, Option, Result, Some, [], and_parts, ap, append_assoc, ap₂, arith, cond, cond_both, drop, drop-drop, drop-set-lt, drop-take, drop_all, drop_at, eq-eqb, eqb, eqb-true, false, false_from_ne_true, flat_map, flat_map-append, flat_map-cons, from_be_bytes-to_be_bytes_2, inl, inr, le-leb, le-ltb, leb-true, length, length-append, length-drop, length-map, length-set, length-take-le, list_all, list_any, ltb-false, ltb-true, map, map-append, nat_eq, nat_le, nat_lt, nil_from_length, not, not-false, not-true, option_map, option_or, or_cases, or_left, or_parts, or_right, refl, replicate, set, subst, suc, sym, take, take-append-drop, take-take, take_at, take_more_set, to_be_bytes, true, true≢false, w16, zero, ℕ, ◌&&◌, ◌*◌, ◌++◌, ◌+◌, ◌-◌, ◌<◌, ◌==◌, ◌||◌, ◌∙◌, ◌∷◌, ◌≡◌, ◌≤◌}
pub use Rattle.std.proofs.Math.Dec.{eqb-suc-zero}
pub use Rattle.std.proofs.lemmas.Bool.{lt-ltb}
pub use Rattle.std.proofs.lemmas.List.{append-nil}
pub use Rattle.bgp_numbers.specs.declared.afi.TheConstants.{IPV4, IPV6}
pub use Rattle.bgp_numbers.specs.declared.attribute.TheConstants.{AGGREGATOR, AS4_AGGREGATOR, AS4_PATH, AS_PATH, ATOMIC_AGGREGATE, COMMUNITIES, LARGE_COMMUNITY, LOCAL_PREF, MP_REACH_NLRI, MP_UNREACH_NLRI, MULTI_EXIT_DISC, NEXT_HOP, ORIGIN}
pub use Rattle.bgp_numbers.specs.declared.capability.TheConstants.{FOUR_OCTET_AS, MULTIPROTOCOL}
pub use Rattle.bgp_numbers.specs.declared.parameter.TheConstants.{CAPABILITIES}
pub use Rattle.bgp_numbers.specs.declared.safi.TheConstants.{UNICAST}
pub use Rattle.bgp_wire.specs.Prelude.{AreOctets, Reads, Row, also, has_octet, none_of_them, pieces, when, ◌>>=◌}
pub use Rattle.bgp_wire.proofs.OctetLemmas.{AreOctets-back, AreOctets-front}
pub use Rattle.bgp_wire.proofs.Pieces.{Splits-pieces, pieces-none, pieces-some}
pub use Rattle.bgp_wire.proofs.Walks.{all_rest, nothing_at, same_rest, shorter}
pub use Rattle.bgp_prefix.specs.Prelude.{IsPrefix, PrefixValue, octets_for, one_prefix, run_of}
pub use Rattle.bgp_prefix.proofs.PrefixLemmas.{IsPrefix-reads}
pub use Rattle.bgp_frame.specs.Prelude.{IsFrame, IsLength, Waits, code_of, has_marker, head_for, head_of, header, is_length, kind_of, length_field, marker, message_in, type_field, wanted}
unfoldable pub use Rattle.bgp_frame.specs.Prelude.{head_of_in}
pub use Rattle.bgp_frame.specs.declared.fault.HeadFault.{HeadFault}
pub use Rattle.bgp_frame.specs.declared.kind.Kind.{Kind}
pub use Rattle.bgp_frame.specs.declared.notification.Notification.{Notification}
pub use Rattle.bgp_frame.proofs.FrameLemmas.{IsFrame-wanted, head_at, head_of-IsFrame, head_of-append, length-IsFrame, wanted-append, wanted_by_head}
pub use Rattle.bgp_frame.specs.steps.AreTypes.{kind_of-code_of}
pub use Rattle.bgp_open.specs.Prelude.{IsCapability, IsOpen, IsParameter, as4_of, capability_of, first_fault, hold_of, id_of, is_short_hold, is_zero_id, length_of, multi_of, one_capability, one_parameter, open_of, or_fault, parameters_of, reading_of, rest_fault, version_of}
unfoldable pub use Rattle.bgp_open.specs.Prelude.{open_fault}
pub use Rattle.bgp_open.specs.declared.capability.Capability.{Capability}
pub use Rattle.bgp_open.specs.declared.context.Context.{Context}
pub use Rattle.bgp_open.specs.declared.fault.OpenFault.{OpenFault}
pub use Rattle.bgp_open.specs.declared.fault.OpenFault.TheVariants.{Hold, Identifier, Memory, Parameter, UnknownParameter, Version}
pub use Rattle.bgp_open.specs.declared.message.Open.{Open}
pub use Rattle.bgp_open.proofs.Capabilities.{capability-reads}
pub use Rattle.bgp_open.proofs.Parameters.{one_parameter-tests, parameter-reads}
pub use Rattle.bgp_open.proofs.Readings.{reading-spells, rest_some}
pub use Rattle.bgp_attr.specs.Prelude.{HasLink, IsNumber, IsReach, IsReachValue, IsSegment, IsTlv, IsTriple, IsUnreach, IsUnreachValue, PlacedTlv, TlvValue, WireSegment, address_width, afi_of, aggregator_tests, as4_path_form, as_path_form, decided, family_of, has_bad_prefix, is_extended, is_in_use, is_next_hop_length, is_recognised, is_shorter, judgement, length_width, link_octets, mp_reach_of, mp_reach_tests, mp_unreach_of, mp_unreach_tests, next_hop_length, number_of_length, number_width, placed_from, placed_tlv, reached_of, rest_left, safi_of, tlvs_left, tlvs_of, type_of, withdrawn_of}
unfoldable pub use Rattle.bgp_attr.specs.Prelude.{one_tlv}
pub use Rattle.bgp_attr.specs.declared.attr.Attr.{Attr}
pub use Rattle.bgp_attr.specs.declared.judged.Judged.{Judged}
pub use Rattle.bgp_attr.specs.declared.mp.MpReach.{MpReach}
pub use Rattle.bgp_attr.specs.declared.mp.MpUnreach.{MpUnreach}
pub use Rattle.bgp_attr.specs.declared.why.Why.{Why}
pub use Rattle.bgp_attr.proofs.EachType.{by_kept}
pub use Rattle.bgp_attr.proofs.Kept.{aggregator-spells, communities-spells, large-spells, mp_reach-spells, mp_unreach-spells}
pub use Rattle.bgp_attr.proofs.Readers.{IsTlv-reads}
pub use Rattle.bgp_attr.proofs.Tables.{by_row, entry-other, ◌&◌}
pub use Rattle.bgp_attr.proofs.TestRows.{NoneApplies, by_type, passed, passed_fault}
pub use Rattle.bgp_update.specs.Parts.{has_nlri}
pub use Rattle.bgp_update.specs.Prelude.{IsBody, Mark, Parts, as_mp_reach, as_mp_unreach, attributes_at, attrs_of, bad_network, behind_two, carries_routes, cut_mark, first_known, first_reset, gone_ip4, gone_ip6, has_routes, is_missing, is_opaque, is_reachable, is_small, is_withdrawn, kept_by, kept_of, malformed, mark_notes, marks_behind, marks_of, missing_in, missing_note, missing_notes, missing_of, notes_of, of_parts, parts_of, reached_ip4, reached_ip6, repeated, reset_by, reset_of, reset_of_run, routes_of, types_of_field, unless_reset, update_of, verdict_of, verdict_on, withdraws}
unfoldable pub use Rattle.bgp_update.specs.Prelude.{attrs_from, field_marks}
pub use Rattle.bgp_update.specs.declared.note.Note.{Note}
pub use Rattle.bgp_update.specs.declared.routes.Routes.{Routes}
pub use Rattle.bgp_update.specs.declared.update.Update.{Update}
pub use Rattle.bgp_update.specs.declared.verdict.Verdict.{Verdict}
pub use Rattle.bgp_update.proofs.Bodies.{behind_two-gives, length-body, parts-body}
pub use Rattle.bgp_update.proofs.KeptMarks.{or-parts, row-kept, with_cut-kept}
pub use Rattle.bgp_update.proofs.SmallLemmas.{both_small, field_small}
pub use Rattle.bgp_update.proofs.Taken.{run-row}
pub use Rattle.bgp_update.proofs.Verdicts.{IsTaken, taken-of, withdrawn-of}
pub use Rattle.bgp_msg.specs.Prelude.{is_reset, of_body, of_reading, of_verdict, out_of}
pub use Rattle.bgp_msg.specs.declared.message.Message.{Message}
pub use Rattle.bgp_msg.specs.declared.outcome.Outcome.{Outcome}
pub use Rattle.bgp_fields.specs.Prelude.{AllRead, ArePlaced, AreTheOctets, HasPlace, IsHead, Plan, ShowsRoutes, ShowsWithdrawal, Telling, Tiles, afi_len, alone, are_identified, asking_place, asks_for, attribute_extent, attribute_len, attribute_place, attribute_value, attribute_values, bad_prefix, behind, behind_family, behind_number, body_part, body_place, capability_behind, capability_place, capability_value, fields_left, fields_of, first_asking, first_of, first_other, fit, group_from, head_fields, header_place, hop_behind, is_nlri_prefix, is_reach_prefix4, is_reach_prefix6, is_unreach_prefix4, is_unreach_prefix6, is_unread, is_withdrawn_prefix, item_extent, leaf, length_place, listed, lone_field, message_at, message_fields, message_fields_in, message_plan, message_plan_in, message_planned, nlri_plan, no_fields, note_place, note_place_in, nothing_in_section, nothing_inside, numbers_behind, octets_in, one, open_place, opening, parameter_place, parameters_place, parts_place, path_fields, plain_reading, prefix_alone, prefix_in, prefix_len, prefix_width, prefixes_shown, refresh_fields, refresh_rest, refresh_row, reset_place, routes_plan, run_place, says_missing, section_at, section_fields, section_fields_in, section_plan, section_plan_in, section_planned, span, told, two_of, update_place, value_fields, value_fields_in, value_plan, value_plan_in, value_planned, walk_within, width_of, withdrawn_plan}
unfoldable pub use Rattle.bgp_fields.specs.Prelude.{walk}
pub use Rattle.bgp_fields.specs.declared.field.Field.{Field}
pub use Rattle.bgp_fields.specs.declared.field.Group.{Group}
pub use Rattle.bgp_fields.specs.declared.kind.FieldKind.{FieldKind}
pub use Rattle.bgp_fields.specs.declared.kind.FieldKind.TheVariants.{AttributeFlags, AttributeLength, AttributeType, Unread}
pub use Rattle.bgp_fields.specs.declared.part.MessagePart.{MessagePart}
pub use Rattle.bgp_fields.specs.declared.part.SectionPart.{SectionPart}
pub use Rattle.bgp_fields.specs.declared.part.ValuePart.{ValuePart}
pub use Rattle.bgp_fields.specs.declared.reading.Reading.{Reading}
pub use Rattle.bgp_paths.specs.declared.families.PathFamilies.{PathFamilies}
