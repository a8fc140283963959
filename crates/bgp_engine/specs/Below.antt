-- The names of std and of the crates below that definitions and contracts cite here, passed on from one place. Declares nothing.
pub use Rattle.std.specs.Prelude.{Bool, Err, IfErr, IfOk, IfSome, List, MatchOption, MatchResult, None, Ok, OnErr, OnOk, Option, Result, Some, [], codes, drop, false, if◌then◌else◌, is_err, is_none, is_some, length, nat_lt, option_map, option_to_list, take, true, ℕ, ◌&&◌, ◌*◌, ◌++◌, ◌+◌, ◌-◌, ◌<◌, ◌==◌, ◌^◌, ◌∷◌, ◌≡◌, ◌≤◌, ◌⊎◌}
pub use Rattle.std.specs.Io.KnownBytes.{Appends, Consumes, IsAtEnd}
pub use Rattle.std.specs.Option.{ForSome, unwrap_or}
pub use Rattle.std.specs.Result.{result_ok}
pub use Rattle.std.specs.String.{string_bytes}
pub use Rattle.hex.specs.Hex.{encode_lower, hex_digit_value, is_hex_digit}
pub use Rattle.bgp_wire.specs.Prelude.{AreOctets, has_octet}
pub use Rattle.bgp_frame.specs.Prelude.{AreTypes, Done, Gives, GivesIn, Hearer, IsLength, IsLengthIn, IsToFeed, IsToFeedIn, Message, MessageIn, Pulls, PullsIn, PullsNext, StreamRules, StreamRulesIn, Types, Waits, WaitsIn, as_it_is, by_feed, given, head_notification, left_to_do, message_in, octets_of, octets_of_in, outcome_of, outcome_of_in, plain, wide_types}
pub use Rattle.bgp_frame.specs.Prelude.{head_of, notification_of_view, wanted}
pub use Rattle.bgp_frame.specs.declared.end.End.{End}
pub use Rattle.bgp_frame.specs.declared.fault.HeadFault.{HeadFault}
pub use Rattle.bgp_frame.specs.declared.kind.Kind.{Kind}
pub use Rattle.bgp_open.specs.Prelude.{IsAllowed, Settings, agree_on_paths, agreed_context, agreement, own_of, reading_of}
pub use Rattle.bgp_terms.specs.Prelude.{Agreed, plain_terms, terms_sent, wide_terms}
pub use Rattle.bgp_terms.specs.declared.refreshes.Refreshes.{Refreshes}
pub use Rattle.bgp_terms.specs.declared.wide_terms.WideTerms.{WideTerms}
pub use Rattle.bgp_refresh.specs.Prelude.{Refresh, refresh_header, refresh_notification, refresh_of, refresh_value}
pub use Rattle.bgp_open.specs.declared.context.Context.{Context}
pub use Rattle.bgp_open.specs.declared.message.Open.{Open}
pub use Rattle.bgp_update.specs.Prelude.{CanBeTold, narrowed_update, update_value, with_as4}
pub use Rattle.bgp_msg.specs.Prelude.{canonical, is_reset, is_too_long, is_valid, of_fault, out_of, outcome_value, stream_rules}
pub use Rattle.bgp_msg.specs.declared.outcome.Outcome.{Outcome}
pub use Rattle.bgp_clean.specs.declared.fault.CleanFault.{CleanFault}
pub use Rattle.bgp_fields.specs.Prelude.{header_fault, header_place, reset_fault, reset_place}
pub use Rattle.bgp_fields.specs.declared.field.Fault.{Fault}
pub use Rattle.bgp_fields.specs.declared.field.Span.{Span}
pub use Rattle.bgp_text.specs.End.{end_line}
pub use Rattle.bgp_text.specs.Explained.{explained_lines, explained_refresh}
pub use Rattle.bgp_text.specs.JsonEnd.{end_json}
pub use Rattle.bgp_text.specs.JsonFields.{explained_json, explained_refresh_json}
pub use Rattle.bgp_text.specs.JsonOutcome.{outcome_json}
pub use Rattle.bgp_text.specs.JsonRefresh.{refresh_json}
pub use Rattle.bgp_text.specs.RefreshLine.{refresh_line}
