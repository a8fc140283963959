-- The names that other crates and the proofs cite, passed on from one place. Declares nothing.
pub use Rattle.ristulva_c.specs.Span.{octets_in}
pub use Rattle.ristulva_c.specs.Copied.{copied}
pub use Rattle.ristulva_c.specs.Context.{context_of, is_set}
pub use Rattle.ristulva_c.specs.Prefixes.{IsCursor, IsPadded, IsWithin, between, prefix_told, prefixes_left, width_of}
pub use Rattle.ristulva_c.specs.Attributes.{IsAttributes, attribute_told, attributes_left}
pub use Rattle.ristulva_c.specs.Parts.{Lie, fields_of, parts_told}
pub use Rattle.ristulva_c.specs.Judge.{Answers, IsJudged, IsTold, Judging, number_of, parts_at, said_by, verdict_told}
pub use Rattle.ristulva_c.specs.Text.{IsPrinted, IsWritten, Prints}
pub use Rattle.ristulva_c.specs.Numbers.{IsNumbers, numbers_left}
pub use Rattle.ristulva_c.specs.Large.{IsLarge, large_left}
pub use Rattle.ristulva_c.specs.Sections.{FaultSection, IsFaultSection, IsNoteSection, section_of}
unfoldable pub use Rattle.ristulva_c.specs.Sections.{why_of}
pub use Rattle.ristulva_c.specs.Segments.{IsSegments, segment_told, segments_left}
pub use Rattle.ristulva_c.specs.Places.{first_of_type, kept_at, value_at, value_in}
pub use Rattle.ristulva_c.specs.Routes.{HasFamily, IsReach, IsReachValue, IsUnreach, LiesIn, hop_of, reach_prefixes, unreach_prefixes}
pub use Rattle.ristulva_c.specs.RouteList.{AreBegun, AreInOrder, AreOfFields, AreRoutes, AreWithdrawn, Begins, IsRouteCursor, RouteValue, carries_ip6, field_routes, has_ip6, is_ip6, is_of, loses_ip6, moved, reached_routes, route_told, routes_left, routes_of, routes_to, unreached_routes}
pub use Rattle.ristulva_c.specs.Encode.{IsCoded, IsEncoded, IsNarrowed, Writes, encoded_of, narrowed_of, short_of, taken_of, without_notes, written_of}
pub use Rattle.ristulva_c.specs.Reconcile.{IsReconciled, rebuilt_attrs, rebuilt_update, reconciled_of}
pub use Rattle.ristulva_c.specs.Notes.{IsNoted, Lists, listed, note_told, number_of_why, told_in}
pub use Rattle.ristulva_c.specs.Capabilities.{IsCapabilities, IsGiven, capabilities_left}
pub use Rattle.ristulva_c.specs.Opens.{Gives, IsOpened, TellsOpen, accepted, accepted_in, flag_of, open_told, read_in}
pub use Rattle.ristulva_c.specs.Facts.{AreFacts, PathsLie, TellsFacts, aggregator_address, aggregator_as, attrs_in, facts_told, hops_told, last_by, last_number, mp_afi, mp_hop, mp_link, origin_in, origin_number, origin_of, paths_told}
pub use Rattle.ristulva_c.specs.RouteRows.{GivesRoutes, announced_row, prefix_row, route_row, row_by, withdrawn_row}
pub use Rattle.ristulva_c.specs.NumberRows.{number_row, number_rows, path_rows, segment_rows}
pub use Rattle.ristulva_c.specs.CommunityRows.{communities_told, community_row, community_rows, large_row, large_rows, large_told}
pub use Rattle.ristulva_c.specs.Config.{settings_of}
pub use Rattle.ristulva_c.specs.States.{number_of_state, number_of_timer}
pub use Rattle.ristulva_c.specs.Actions.{action_told, actions_told, count_of, first_told, message_of, no_action, notification_octets, octets_sent, plain, rest_of}
pub use Rattle.ristulva_c.specs.Session.{Follows, IsStateTold, WithRoom}
pub use Rattle.ristulva_c.specs.Agreed.{IsCodesTold, IsContextTold, IsKnown, IsOpenTold, context_said, peer_said}
pub use Rattle.ristulva_c.specs.Decoder.{GivesHeld, IsHeldTold, IsWholeTold, Pulls, PullsWithRoom}
pub use Rattle.ristulva_c.specs.Clean.{Cleaning, Hands, HandsClean, IsHandedOn, caps_left_out_in, cleaned_told, discarded_in, end_told, handed_octets, handed_told, left_out_in, types_in, with_types}
pub use Rattle.ristulva_c.specs.Guard.{GoesOn, GuardHears, HearsOf, IsAsked, IsFrontOf, IsSetTo, IsStopped, IsTicked, ShowsWay, TellsStall, asks_told, came_told, rule_of, side_of}
pub use Rattle.ristulva_c.specs.FieldKinds.{Names, number_of_kind}
unfoldable pub use Rattle.ristulva_c.specs.FieldKinds.{kind_of}
pub use Rattle.ristulva_c.specs.Fields.{IsFilled, field_told, fields_told}
pub use Rattle.ristulva_c.specs.Faults.{IsFault, IsNotePlace, noted_place, place_told}
pub use Rattle.ristulva_c.specs.steps.Batch.{Adds, Holds, IsViewed, Stops, Takes}
pub use Rattle.ristulva_c.specs.steps.LeftOut.{is_left_out}
pub use Rattle.ristulva_c.specs.steps.NumberRows.{numbers_in, with_number}
pub use Rattle.ristulva_c.specs.steps.OriginAs.{last_behind, origin_behind}
pub use Rattle.ristulva_c.specs.steps.RouteList.{cursor_by, no_prefixes, no_routes, prefixes_at, prefixes_by, reach_afi, unreach_afi, value_from}
pub use Rattle.ristulva_c.specs.steps.RouteRows.{AreWithin, no_prefix, prefix_rows, reached_rows, rows_seen, unreached_rows, update_rows, with_prefix}
