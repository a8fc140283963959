-- Re-exports the names of std and of the crates below that definitions and contracts cite here. Declares nothing.
pub use Rattle.std.specs.Prelude.{Bool, IfOk, List, None, OnOk, Option, Some, [], codes, drop, false, if◌then◌else◌, length, map, nat_le, nat_lt, option_map, slice_index, take, true, ℕ, ◌%◌, ◌&&◌, ◌++◌, ◌+◌, ◌-◌, ◌/◌, ◌<◌, ◌==◌, ◌||◌, ◌∷◌, ◌≡◌, ◌≤◌}
pub use Rattle.std.specs.Char.{encode_utf8, is_ascii, is_control}
pub use Rattle.std.specs.Fmt.{decimal, digit_glyph}
pub use Rattle.std.specs.List.{flat_map, list_all}
pub use Rattle.std.specs.Str.{IsAscii, chars, is_utf8}
pub use Rattle.std.specs.String.{string_bytes}
pub use Rattle.bgp_numbers.specs.declared.error.TheConstants.{ADMINISTRATIVE_RESET, ADMINISTRATIVE_SHUTDOWN, CEASE, MESSAGE_HEADER, OPEN_MESSAGE, ROUTE_REFRESH_MESSAGE}
pub use Rattle.bgp_names.specs.Attributes.{attribute_name, origin_name, segment_name}
pub use Rattle.bgp_names.specs.Capabilities.{capability_name, parameter_name}
pub use Rattle.bgp_names.specs.Errors.{error_name, subcode_name}
pub use Rattle.bgp_prefix.specs.Prelude.{PrefixValue, group_text, groups_text, hex_octet, ipv4_text, ipv6_text, prefixes_left, run_of}
unfoldable pub use Rattle.bgp_prefix.specs.Prelude.{ipv4_address_text, ipv6_address_text}
pub use Rattle.bgp_prefix.specs.declared.as_number.AsNumber.{AsNumber}
pub use Rattle.bgp_frame.specs.Prelude.{notification_of_view}
pub use Rattle.bgp_frame.specs.declared.end.End.{End}
pub use Rattle.bgp_frame.specs.declared.notification.Notification.{Notification}
pub use Rattle.bgp_open.specs.Prelude.{open_value}
pub use Rattle.bgp_open.specs.declared.capability.Capability.{Capability}
pub use Rattle.bgp_open.specs.declared.capability.Capability.TheVariants.{As4, Multi, Other}
pub use Rattle.bgp_open.specs.declared.context.Context.{Context}
pub use Rattle.bgp_open.specs.declared.message.Open.{Open}
pub use Rattle.bgp_refresh.specs.Prelude.{Refresh, refresh_notification, refresh_value, subtype_of}
pub use Rattle.bgp_refresh.specs.declared.mark.RefreshMark.{RefreshMark}
pub use Rattle.bgp_attr.specs.Prelude.{attr_value, communities_left, is_extended, is_optional, is_partial, is_transitive, opaque_value, path_value, reach_value, segment_value, segments_left, triples_left, unreach_value}
pub use Rattle.bgp_attr.specs.declared.aggregator.Aggregator.{Aggregator}
pub use Rattle.bgp_attr.specs.declared.attr.Attr.{Attr}
pub use Rattle.bgp_attr.specs.declared.mp.MpReach.{MpReach}
pub use Rattle.bgp_attr.specs.declared.mp.MpUnreach.{MpUnreach}
pub use Rattle.bgp_attr.specs.declared.opaque.Opaque.{Opaque}
pub use Rattle.bgp_attr.specs.declared.origin.Origin.{Origin}
pub use Rattle.bgp_attr.specs.declared.path.AsPath.{AsPath}
pub use Rattle.bgp_attr.specs.declared.path.SegKind.{SegKind}
pub use Rattle.bgp_attr.specs.declared.path.Segment.{Segment}
pub use Rattle.bgp_attr.specs.declared.why.Why.{Why}
pub use Rattle.bgp_update.specs.Prelude.{gone_ip4, gone_ip6, known_value, notes_left, notes_value, reached_ip4, reached_ip6, routes_value, update_value}
unfoldable pub use Rattle.bgp_update.specs.Prelude.{slot}
pub use Rattle.bgp_update.specs.declared.note.Note.{Note}
pub use Rattle.bgp_update.specs.declared.routes.Routes.{Routes}
pub use Rattle.bgp_update.specs.declared.update.Update.{Update}
pub use Rattle.bgp_msg.specs.Prelude.{of_fault, out_of, outcome_value}
pub use Rattle.bgp_msg.specs.declared.message.Message.{Message}
pub use Rattle.bgp_msg.specs.declared.outcome.Outcome.{Outcome}
pub use Rattle.bgp_fields.specs.Prelude.{fields_left, fields_of, octets_in, path_fields, refresh_fields}
pub use Rattle.bgp_fields.specs.declared.cause.Cause.{Cause}
pub use Rattle.bgp_fields.specs.declared.field.Fault.{Fault}
pub use Rattle.bgp_fields.specs.declared.field.Field.{Field}
pub use Rattle.bgp_fields.specs.declared.field.Span.{Span}
pub use Rattle.bgp_fields.specs.declared.kind.FieldKind.{FieldKind}
