-- The names of std, of the crates below and of this crate that its proofs cite, passed on from one place. Declares nothing.
pub use Rattle.bgp_fields.proofs.Prelude.{append-nil, AreOctets, has_octet, AreOctets-back, IsFrame, IsLength, Waits, head_of, header, wanted, HeadFault, IsFrame-wanted, head_of-IsFrame, head_of-append, length-IsFrame, wanted-append, wanted_by_head, reading_of, Context, Open, verdict_of, of_body, of_reading, of_verdict}
pub use Rattle.bgp_clean.proofs.Prelude.{is_some, slice_index, AreOctets-drop, octets_of, wanted-bounds, open_notification, peer_as_of, written_body, of_open_fault, outcome_value}
pub use Rattle.bgp_text.proofs.Prelude.{notes_value, update_value}
pub use Rattle.bgp_wire.proofs.Std.{Bool, Bor, Err, IfOk-weaker, List, None, Ok, OnErr, OnOk, Option, Result, Some, [], add-zero, and_parts, ap, append_assoc, arith, cases_lt, cond, drop, drop-append_seam, drop-drop, eqb, eqb-true, err_from_is_err_and, false, false_from_ne_true, false≢true, get_or, if◌then◌else◌, inl, inr, le-ltb, leb, leb-true, length, length-append, length-drop, map, nil_from_length, not, option_map, or_cases, range_with_len, refl, rules, slice_index_or, subst, suc, sym, take, take-append-drop, take-append-le, take-append_seam, take_all, take_rest, true, unwrap_or, zero, ℕ, ◌%◌, ◌&&◌, ◌*◌, ◌++◌, ◌+◌, ◌-◌, ◌/◌, ◌<◌, ◌^◌, ◌||◌, ◌∙◌, ◌∷◌, ◌≡◌, ◌≤◌, ◌⊎◌}
pub use Rattle.std.proofs.KnownBytes.{Appends-nil, Appends-trans, Consumes-kept, Consumes-nil, Consumes-trans}
pub use Rattle.std.proofs.lemmas.List.{length-take}
pub use Rattle.std.specs.Io.KnownBytes.{Appends, Consumes, IsAtEnd, Keeps, WriteAppends}
pub use Rattle.std.specs.Prelude.{IfOk, MatchOption, is_none, is_ok, option_to_list}
pub use Rattle.hex.specs.Hex.{encode_lower, hex_digit_value, is_hex_digit, lower_digits}
unfoldable pub use Rattle.hex.specs.Hex.{encode_with}
pub use Rattle.bgp_wire.proofs.OctetLemmas.{AreOctets-append, AreOctets-front, AreOctets-nil, AreOctets-one, AreOctets-push, AreOctets-take}
pub use Rattle.bgp_frame.specs.Prelude.{AreTypes, Done, Gives, GivesIn, IsContent, IsContentIn, IsFrameIn, IsHeld, IsHeldIn, IsLengthIn, Judges, Message, MessageIn, Pulls, PullsIn, Stops, StopsIn, Types, WaitsIn, octets_of_in, behind_feed, by_octets, done_by, given, left_to_do, wanted_by}
unfoldable pub use Rattle.bgp_frame.specs.Prelude.{wanted_in}
pub use Rattle.bgp_frame.specs.declared.end.End.{End}
pub use Rattle.bgp_frame.proofs.FrameLemmas.{Stops-wanted, wanted-Stops}
pub use Rattle.bgp_frame.proofs.Pulls.{nothing_waits}
pub use Rattle.bgp_frame.proofs.Streams.{gives_fault, gives_more, gives_reset, gives_wait}
pub use Rattle.bgp_open.specs.Prelude.{IsAllowed, Settings, agreed_context, agreement, context_of, own_of, same_id}
pub use Rattle.bgp_update.specs.Prelude.{CanBeTold}
pub use Rattle.bgp_engine.specs.Prelude.{Answers, AppendsFront, Breaks, Closes, ClosesBy, Continues, Fails, FailsWithin, Finished, Finishes, FirstPair, GoesOn, Hears, Io, IsAllRead, IsAnswer, IsBadAt, IsCounting, IsFaultOf, IsFresh, IsFront, IsJudged, IsOver, IsPair, IsFirst, IsReady, IsReport, IsTyped, IsTotal, IsWaiting, MeetsBad, MeetsBlock, MeetsOver, Moves, OfOctets, Plan, ReadsPairs, ReadyAt, Report, ReportedAs, ReportedAt, ReportedBy, ReportedFrom, ReportedIn, ReportedWith, ReportedWithout, Reports, Rests, Rules, RulesIn, Settles, Start, Starts, Takes, Walking, Writes, WritesAll, WritesFault, WritesNone, Fit, agreed, any_as4, any_plain, any_terms, fitting, all_counts, bad_of, behind, class_of, closing, comes, counted, digit_value, end_by, ended_by, first_message, first_open, fit_of, hex_line, io, is_blank, is_last, is_part, messages_in, no_tally, octets_at, open_at, open_in, outcome, passed, pending, place, report_of, reported, reports_in, reports_of, reset_if, rest_of, start_in, start_of, start_under, starting, starts_of, stream_of, total, unagreed, unagreed_end, value_or_none, walk_of, walker, walking, without_words}
unfoldable pub use Rattle.bgp_engine.specs.Prelude.{bad_from, spelled}
pub use Rattle.bgp_engine.specs.declared.class.Class.{Class}
pub use Rattle.bgp_engine.specs.declared.fault.ToolFault.{ToolFault}
pub use Rattle.bgp_engine.specs.declared.hex_text.HexText.{HexText}
pub use Rattle.bgp_engine.specs.declared.opening.Stage.{Stage}
pub use Rattle.bgp_engine.specs.declared.tally.Tally.{Tally}
