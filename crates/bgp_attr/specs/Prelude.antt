-- Re-exports the names that other crates and the proofs cite. Declares nothing.
pub use Rattle.bgp_attr.specs.Flags.{flags_octet, has_class, is_extended, is_optional, is_partial, is_transitive}
pub use Rattle.bgp_attr.specs.Tlv.{IsTlv, PlacedTlv, TlvValue, length_octets, length_width, number_of_length, placed_from, tlv_octets, tlvs_of}
unfoldable pub use Rattle.bgp_attr.specs.Tlv.{one_tlv}
pub use Rattle.bgp_attr.specs.Numbers.{IsNumber, IsTriple, each_once, number_in, number_octets, number_width, numbers_of, once_behind, row_octets, same_triple, triple_octets, triples_of}
unfoldable pub use Rattle.bgp_attr.specs.Numbers.{one_number, one_triple}
pub use Rattle.bgp_attr.specs.Path.{IsSegment, WireSegment, as_number, is_known, kept_segment, kept_segments_of, kind_of_segment, path_fault, path_has_zero, path_of, segment_fault, segment_kept_as, segment_of, segments_of, why_malformed}
unfoldable pub use Rattle.bgp_attr.specs.Path.{one_segment}
pub use Rattle.bgp_attr.specs.Mp.{IsReachable, address_width, afi_of, family_of, is_in_use, is_next_hop_length, mp_reach_of, mp_unreach_of, next_hop_length, next_hop_of, reach_of_family, reached_of, safi_of, unreach_of_family, withdrawn_of}
pub use Rattle.bgp_attr.specs.Table.{entry_of, has_entry}
pub use Rattle.bgp_attr.specs.Value.{aggregator_of, as4_path_form, as4_path_of, as_path_form, communities_of, four_of, large_of, opaque_of, origin_of}
pub use Rattle.bgp_attr.specs.Judgement.{AttributeType, aggregator_tests, as4_aggregator_tests, as4_path_tests, as_path_tests, atomic_tests, communities_tests, decided, four_tests, internal_tests, has_bad_prefix, is_recognised, is_shorter, judgement, large_tests, mp_reach_tests, mp_unreach_tests, next_hop_tests, origin_tests, other_tests, other_type, types}
unfoldable pub use Rattle.bgp_attr.specs.Judgement.{type_row}
pub use Rattle.bgp_attr.specs.MpTest.{deciding, deciding_test, reach_names, unreach_names}
pub use Rattle.bgp_attr.specs.Spelling.{HasLink, IsAggregator, IsAs4Path, IsAsPath, IsAtomic, IsCommunities, IsFour, IsLarge, IsMpReach, IsMpUnreach, IsNextHop, IsOfType, IsOpaque, IsOrigin, IsPath, IsReach, IsReachValue, IsUnreach, IsUnreachValue, Spells, link_octets, origin_code}
pub use Rattle.bgp_attr.specs.Written.{Belongs, HasLinkRange, HasPathRanges, HasRanges, IsAddress, IsFourOctets, IsThreeNumbers, aggregator_octets, any_number, canonical, class_of, has_as_zero, is_above_two_octets, is_as4, is_bad_segment, is_empty, is_misnamed, is_out_of_place, is_too_long, is_too_wide, is_writable, is_zero, made, optional_class, partial_of, path_octets, reach_octets, reach_row, repeats, run_octets, segment_code, segment_octets, stands_twice, type_of, unreach_octets, unreach_row, unwritable, value_octets, why_unless, written_tlv}
pub use Rattle.bgp_attr.specs.NumberIter.{as_numbers_left, communities_left}
pub use Rattle.bgp_attr.specs.TlvView.{placed_tlv, tlv_value}
pub use Rattle.bgp_attr.specs.TlvIter.{rest_left, tlv_at, tlvs_left}
pub use Rattle.bgp_attr.specs.SegmentView.{wire_segment}
pub use Rattle.bgp_attr.specs.PathView.{path_value, segment_value, segments_left}
pub use Rattle.bgp_attr.specs.LargeStep.{GivesNew, IsRowUpTo, new_from}
pub use Rattle.bgp_attr.specs.LargeIter.{triples_left}
pub use Rattle.bgp_attr.specs.CommunitiesView.{communities_value, large_value}
pub use Rattle.bgp_attr.specs.MpView.{reach_value, unreach_value}
pub use Rattle.bgp_attr.specs.AttrView.{as4_path_value, attr_value, opaque_value, ref_value}
pub use Rattle.bgp_attr.specs.Ruling.{attribute_reset, keeps, ruled}
pub use Rattle.bgp_attr.specs.FoundAttr.{found_attr_value}
pub use Rattle.bgp_attr.specs.JudgedView.{is_kept, judged_value}
pub use Rattle.bgp_attr.specs.Laws.{CanBeWritten}
pub use Rattle.bgp_attr.specs.Headed.{headed}
pub use Rattle.bgp_attr.specs.steps.LengthField.{length_field}
