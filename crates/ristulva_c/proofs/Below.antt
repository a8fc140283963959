-- The names of std and of the libraries below that most proofs cite, passed on from one place. Declares nothing.
pub use Rattle.bgp_wire.proofs.Std.{Bool, Err, IsTrue, List, None, Ok, Option, Result, Some, [], and_right, ap, append_assoc, ap₂, arith, both_ways, cond, drop, drop-drop, drop-take, drop_at, drop_min, eq-eqb, eqb, eqb-true, false, false_from_ne_true, filter, find, find-append, flat_map, flat_map-cons, get_or, if◌then◌else◌, inl, inr, le-leb, le-ltb, leb, leb-false, length, length-append, length-drop, length-map, length_push, lt-leb, ltb, map, map-append, map-id, min, nat_le, nat_lt, ne_eqb, not, option_map, option_or, or_from, or_left, or_right, range_with_len, refl, set, set-append_right, subst, suc, sym, take, take-append-drop, take-take, take_all, take_at, to_be_bytes, true, w16, ℕ, ◌&&◌, ◌*◌, ◌++◌, ◌+◌, ◌-◌, ◌<◌, ◌==◌, ◌||◌, ◌∙◌, ◌∷◌, ◌≡◌, ◌≢◌, ◌≤◌, ◌⊎◌}
pub use Rattle.std.specs.Prelude.{is_none, is_some}
pub use Rattle.std.proofs.Common.{IfOk}
pub use Rattle.std.proofs.lemmas.List.{append-nil, length-take}
pub use Rattle.std.proofs.lemmas.List.Elements.{filter-append}
pub use Rattle.std.proofs.lemmas.List.Filters.{length-filter_both}
pub use Rattle.std.proofs.lemmas.List.FromFn.{filter_of_map_range_with_len_more, length-range_with_len}
pub use Rattle.bgp_wire.specs.Prelude.{AreOctets, Reads, Row, also, has_octet, none_of_them, pieces, ◌>>=◌}
pub use Rattle.bgp_wire.proofs.OctetLemmas.{AreOctets-back, AreOctets-take}
pub use Rattle.bgp_wire.proofs.Pieces.{Splits-pieces}
pub use Rattle.bgp_wire.proofs.Walks.{first_then, no_more, not_more}
pub use Rattle.bgp_numbers.specs.declared.afi.TheConstants.{IPV4, IPV6}
pub use Rattle.bgp_numbers.specs.declared.attribute.TheConstants.{AS4_PATH, AS_PATH, COMMUNITIES, LARGE_COMMUNITY, MP_REACH_NLRI, MP_UNREACH_NLRI}
pub use Rattle.bgp_numbers.specs.declared.parameter.TheConstants.{CAPABILITIES}
pub use Rattle.bgp_numbers.specs.declared.safi.TheConstants.{UNICAST}
pub use Rattle.bgp_prefix.specs.Prelude.{IsPrefix, PrefixValue, one_prefix, run_of}
pub use Rattle.bgp_prefix.specs.declared.as_number.AsNumber.{AsNumber}
pub use Rattle.bgp_prefix.proofs.PrefixLemmas.{IsPrefix-reads}
pub use Rattle.bgp_frame.specs.Prelude.{IsContent, IsFrame, Message, ShowsFront, ShowsStep, Stops, Takes, Waits, code_of, head_of, header, least_length, length_field, message_in, notification_of_view, wanted, wanted_by}
unfoldable pub use Rattle.bgp_frame.specs.Prelude.{wanted_in}
pub use Rattle.bgp_frame.specs.declared.fault.HeadFault.{HeadFault}
pub use Rattle.bgp_frame.specs.declared.kind.Kind.{Kind}
pub use Rattle.bgp_frame.specs.declared.notification.Notification.{Notification}
pub use Rattle.bgp_frame.specs.Step.{Step}
pub use Rattle.bgp_frame.proofs.FrameLemmas.{Stops-wanted, length-octets_of, wanted_by_head}
pub use Rattle.bgp_frame.proofs.Headers.{length-header}
pub use Rattle.bgp_open.specs.Prelude.{IsCapability, IsParameter, capabilities_left, capabilities_of, capability_of, joined, one_capability, one_parameter, open_fault, open_notification, open_of, open_value, or_fault, parameters_of, reading_of}
unfoldable pub use Rattle.bgp_open.specs.Prelude.{rising}
pub use Rattle.bgp_open.specs.declared.capability.Capability.{Capability}
pub use Rattle.bgp_open.specs.declared.context.Context.{Context}
pub use Rattle.bgp_open.specs.declared.fault.OpenFault.{OpenFault}
pub use Rattle.bgp_open.specs.declared.message.Open.{Open}
pub use Rattle.bgp_open.specs.declared.open_view.OpenView.{OpenView}
pub use Rattle.bgp_attr.specs.Prelude.{AttributeType, IsNumber, IsSegment, IsTlv, IsTriple, PlacedTlv, TlvValue, WireSegment, afi_of, as4_path_form, as4_path_of, as_number, as_numbers_left, as_path_form, communities_of, communities_value, each_once, is_extended, judgement, kept_segment, kind_of_segment, large_of, large_value, length_width, mp_reach_of, mp_unreach_of, next_hop_length, number_width, numbers_of, one_number, one_segment, one_tlv, one_triple, path_of, placed_from, placed_tlv, reached_of, safi_of, segment_kept_as, segment_value, segments_of, tlv_at, tlvs_left, tlvs_of, triples_of, type_of, withdrawn_of}
pub use Rattle.bgp_attr.specs.declared.aggregator.Aggregator.{Aggregator}
pub use Rattle.bgp_attr.specs.declared.attr.Attr.{Attr}
pub use Rattle.bgp_attr.specs.declared.communities.Communities.{Communities}
pub use Rattle.bgp_attr.specs.declared.communities.LargeCommunities.{LargeCommunities}
pub use Rattle.bgp_attr.specs.declared.judged.Judged.{Judged}
pub use Rattle.bgp_attr.specs.declared.mp.MpReach.{MpReach}
pub use Rattle.bgp_attr.specs.declared.mp.MpUnreach.{MpUnreach}
pub use Rattle.bgp_attr.specs.declared.opaque.Opaque.{Opaque}
pub use Rattle.bgp_attr.specs.declared.path.As4Path.{As4Path}
pub use Rattle.bgp_attr.specs.declared.path.AsPath.{AsPath}
pub use Rattle.bgp_attr.specs.declared.path.SegKind.{SegKind}
pub use Rattle.bgp_attr.specs.declared.path.SegKind.TheVariants.{Seq, Set}
pub use Rattle.bgp_attr.specs.declared.path.Segment.{Segment}
pub use Rattle.bgp_attr.specs.declared.path_form.PathForm.{PathForm}
pub use Rattle.bgp_attr.specs.declared.why.Why.{Why}
pub use Rattle.bgp_attr.proofs.Readers.{IsNumber-reads, IsSegment-reads, IsTlv-reads, IsTriple-reads}
pub use Rattle.bgp_update.specs.Prelude.{HasNoAs4, IsBody, Mark, Parts, as_as4_path, as_as_path, as_communities, as_large, as_mp_reach, as_mp_unreach, as_opaque, attributes_at, attrs_left, attrs_of, carries_routes, cut_mark, first_known, found_value, front_by, gone_ip4, gone_ip6, is_as_trans, is_opaque, is_reachable, is_withdrawn, items_behind, items_of, joined_left, joined_value, kept_by, kept_of, lead, malformed, mark_notes, marks_behind, marks_of, missing_note, missing_notes, missing_of, narrowed_update, notes_left, notes_of, notes_value, of_parts, parts_of, parts_value, placed_tlvs, put_rising, reached_ip4, reached_ip6, rebuilt, rebuilt_by, rebuilt_path, repeated, reset_of, rising_behind, routes_of, unless_reset, update_of, update_value, verdict_of, view_marks, why_not, with_as4, without_reset, written_body}
unfoldable pub use Rattle.bgp_update.specs.Prelude.{attrs_from, field_marks}
pub use Rattle.bgp_update.specs.declared.attrs.Attrs.{Attrs}
pub use Rattle.bgp_update.specs.declared.found.Found.{Found}
pub use Rattle.bgp_update.specs.declared.invalid.Invalid.{Invalid}
pub use Rattle.bgp_update.specs.declared.missing.Missing.{Missing}
pub use Rattle.bgp_update.specs.declared.note.Note.{Note}
pub use Rattle.bgp_update.specs.declared.path_info.PathInfo.{PathInfo}
pub use Rattle.bgp_update.specs.declared.update.Update.{Update}
pub use Rattle.bgp_update.specs.declared.verdict.Verdict.{Verdict}
pub use Rattle.bgp_update.specs.declared.view.UpdateView.{UpdateView}
pub use Rattle.bgp_update.specs.declared.write.WriteFault.{WriteFault}
pub use Rattle.bgp_update.proofs.Bodies.{length-body, parts-body}
pub use Rattle.bgp_update.specs.Parts.{has_nlri}
pub use Rattle.bgp_msg.specs.Prelude.{Decoding, IsFed, IsLook, IsPulled, behind, canonical, decoder, given_by, holding, invalid_of, is_reset, is_too_long, is_valid, of_body, of_fault, of_open_fault, of_reading, of_verdict, out_of, outcome_value, written}
pub use Rattle.bgp_msg.specs.declared.outcome.Outcome.{Outcome}
pub use Rattle.bgp_msg.specs.declared.outcome_view.OutcomeView.{OutcomeView}
pub use Rattle.bgp_fields.specs.Prelude.{Tiles, attribute_place, fields_left, fields_of, is_attribute, note_place, note_place_in, says_missing}
pub use Rattle.bgp_fields.specs.declared.field.Field.{Field}
pub use Rattle.bgp_fields.specs.declared.kind.FieldKind.{FieldKind}
