-- The names that other crates and the proofs cite, passed on from one place. Declares nothing.
pub use Rattle.bgp_session.specs.Pair.{End, Note, Pair, acted, all_acted, away, before_event, fed, flying, note_of, pair, sent, told, told_by, towards, with_flight, with_session}
pub use Rattle.bgp_session.specs.World.{Asks, Ran, Shows, Turn, World, all_moved, answer_of, asked, begins, behind, calls_in, can_join, cut_behind, cut_if, delivered, delivers, delivers_on, drawn, emptied, end_of, fails_up, feeds, feeds_seen, joined_end, joined_if, joins, joins_seen, later_of, lost, lost_if, lost_seen, moved, new_round, played, ran, refused_at, refused_seen, round_of, rounds_of, seeks, seen_by, sends, sends_seen, sent_or, shown, sights_in, stands, state_of, tells, tells_if, tells_seen, with_pair, with_round}
pub use Rattle.bgp_session.specs.Wire.{Call, Cut, Grows, Handed, HasAnswered, Joined, Trace, answers_in, failed_after, failed_behind, trace}
pub use Rattle.bgp_session.specs.Sight.{Begun, Came, Ended, Heard, Sight, Told, Tried, came_if, event_seen, observed, octet_seen, octets_seen, settled_seen, step_seen, tried_seen}
pub use Rattle.bgp_session.specs.Report.{IsReported, calls_behind, report_of, sights_behind}
pub use Rattle.bgp_session.specs.Laws.{AllSendRanges, BothAgree, CanBeSet, HasRangesUnless, HasReason, HaveSentRanges, HeardAll, HearsFronts, IsFrontHeard, NoteHasReason, RoundHasReasons, SendsRanges, both_wide, context_at, heard, world_behind}
pub use Rattle.bgp_session.specs.steps.Feeding.{Feeds, FeedsOn, SeesPull, fed_on, left_seen, with_machine}
pub use Rattle.bgp_session.specs.steps.Playing.{Delivers, Gives, HaveSoFar, IsTried, Observes, Passes, Plays, PlaysOn, Rests, Sends, Wired, passed_seen}
