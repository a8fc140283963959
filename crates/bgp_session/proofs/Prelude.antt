-- The names of std, of the crates below and of this crate that its proofs cite, passed on from one place. Declares nothing.
pub use Rattle.bgp_machine.proofs.Prelude.{CountsFed, IsFrame, IsHeld, Message, Waits, done_by, HeadFault, Kind, Notification, settled_by, Settings, agreement, reading_of, said_by, Context, HasNoAs4, HasUpdateRanges, invalid_of, narrowed_update, verdict_of, Update, IsAtRest, IsPulled, Machine, Standing, Step, after_event, cease, disarmed, flushed, happens, hearer, hears, held_too_long, holding, is_told_too_long, kept, listens, on_agreement, on_message, on_open, on_update, on_verdict, only_if, refusal_of, runs, told_octets, told_with, unless_invalid, why_unsent}
pub use Rattle.bgp_wire.proofs.Std.{All, AllByRecursion, Bool, Bor, Contains, Err, List, None, Ok, OnOk, Option, Result, Some, [], and_parts, ap, append_assoc, ap₂, arith, cases_lt, cond, drop, drop-append_seam, drop-nil, eq-eqb, eqb, eqb-true, false, false≢true, get_or, if◌then◌else◌, inl, inr, length, length-append, length-drop, ltb-false, map, map-append, nat_lt, not, option_copied, option_map, refl, subst, suc, sym, take, take-append-drop, take-append_seam, take-suc, take_all, true, true≢false, zero, ℕ, ◌&&◌, ◌++◌, ◌+◌, ◌/◌, ◌<◌, ◌==◌, ◌∙◌, ◌∷◌, ◌≡◌, ◌≢◌, ◌≤◌, ◌⊎◌}
pub use Rattle.std.proofs.lemmas.List.{append-nil, length-take}
pub use Rattle.std.specs.Result.{IfOk}
pub use Rattle.arrayvec.specs.ArrayVec.{ArrayVec}
pub use Rattle.bgp_wire.specs.Prelude.{AreOctets}
pub use Rattle.bgp_wire.proofs.Writes.{all_push}
pub use Rattle.bgp_frame.specs.Prelude.{IsLength, Judges, Takes, behind_feed, octets_of, wanted, with_octet}
pub use Rattle.bgp_frame.proofs.FrameLemmas.{IsFrame-wanted, length-IsFrame, length-octets_of, wanted-append, wanted_under}
pub use Rattle.bgp_frame.proofs.Hearings.{IsHeld-fed, Passes, all_held, call_ends, content_is, empty_waits, front_by_octets, idles, judged_empty, judges_lighter, lighter, none_left, none_more, passes, pull_waits, rests, took_none, waits_or_stops}
pub use Rattle.bgp_frame.proofs.Pulls.{nothing_waits}
pub use Rattle.bgp_open.specs.Prelude.{IsOpen, context_of, field_for, offered, own_of, peer_as_of, peer_notification, same_id}
pub use Rattle.bgp_open.specs.declared.agreement.PeerFault.{PeerFault}
pub use Rattle.bgp_open.proofs.Agreements.{accepted, both_agree, has_as4, peer_as-own}
pub use Rattle.bgp_update.specs.Prelude.{narrow_number, narrow_segment, onward_of, rebuilt, rebuilt_by, written_body}
pub use Rattle.bgp_update.specs.declared.path_info.PathInfo.{PathInfo}
pub use Rattle.bgp_update.specs.declared.verdict.Verdict.{Verdict}
pub use Rattle.bgp_machine.specs.Prelude.{Done, IsReady, after_step, agreed, by_octet, by_octets, go, judged, keepalive_octets, left_to_do, notification_octets, refusal_in, settled, timers_behind, timers_with, told_in, weight}
unfoldable pub use Rattle.bgp_machine.specs.Prelude.{own_octets}
pub use Rattle.bgp_machine.specs.declared.send_fault.SendFault.{SendFault}
pub use Rattle.bgp_machine.specs.declared.timer.Timers.{Timers}
pub use Rattle.bgp_machine.specs.declared.action.Action.{Action}
pub use Rattle.bgp_machine.specs.declared.event.Event.{Event}
pub use Rattle.bgp_machine.specs.declared.state.State.{State}
pub use Rattle.bgp_machine.specs.declared.timer.Timer.{Timer}
pub use Rattle.bgp_machine.proofs.Cuttings.{event_rests, fresh_rests, is_hearer, pulls_as_fed}
pub use Rattle.bgp_session.specs.Prelude.{AllSendRanges, Asks, Begun, BothAgree, Call, Came, CanBeSet, Cut, Delivers, End, FeedsOn, Gives, Grows, Handed, HasRangesUnless, HasReason, HaveSentRanges, HaveSoFar, Heard, HeardAll, HearsFronts, IsFrontHeard, IsReported, IsTried, Joined, Note, NoteHasReason, Observes, Pair, Plays, PlaysOn, Ran, Rests, RoundHasReasons, Sends, SendsRanges, Shows, Sight, Trace, Turn, Wired, World, acted, all_acted, all_moved, answer_of, answers_in, asked, away, before_event, begins, behind, both_wide, calls_behind, calls_in, came_if, can_join, context_at, cut_behind, cut_if, delivered, delivers, delivers_on, drawn, emptied, end_of, failed_after, failed_behind, fails_up, fed, fed_on, feeds, feeds_seen, flying, heard, joined_end, joined_if, joins, joins_seen, later_of, left_seen, lost, lost_if, lost_seen, moved, new_round, note_of, observed, octet_seen, octets_seen, pair, passed_seen, played, ran, refused_at, refused_seen, report_of, round_of, rounds_of, seeks, seen_by, sends, sends_seen, sent, sent_or, settled_seen, shown, sights_behind, sights_in, stands, state_of, step_seen, tells, tells_if, tells_seen, told, told_by, towards, trace, with_flight, with_machine, with_pair, with_round, with_session, world_behind}
pub use Rattle.bgp_session.specs.declared.moves.Move.{Move}
pub use Rattle.bgp_session.specs.declared.report.Report.{Report}
pub use Rattle.bgp_session.specs.declared.report.Round.{Round}
pub use Rattle.bgp_session.specs.declared.side.Side.{Side}
pub use Rattle.bgp_session.specs.declared.side.Side.TheVariants.{A, B}
