-- The names of std, of the crates below and of this crate that its proofs cite, passed on from one place. Declares nothing.
pub use Rattle.bgp_clean.proofs.Prelude.{append-nil, is_some, AreOctets, Row, has_octet, message_in, notification_of_view, Kind, Notification, open_notification, reading_of, Context, Open, verdict_of, Verdict, notification_in, of_open_fault, of_reading, of_verdict, out_of, outcome_value, written, Message, Outcome, IsCleanWith, IsCleaned, cleaned_with, cleaned_open_with, cleaned_outcome, cleaned_update, ended_family, lacks_family, octets_handed, or_keepalive, parts_handed, refuses_in, withdrawal}
pub use Rattle.bgp_wire.proofs.Std.{AllByRecursion, Bool, Err, List, None, Ok, Option, Result, Some, [], and_parts, ap, append_assoc, ap₂, arith, cases_lt, cond, drop, drop-append-le, drop-drop, drop-take, false, flat_map, if◌then◌else◌, inl, inr, le-ltb, length, length-append, length-drop, ltb-false, map, nat_lt, not, not-false, not-true, option_map, refl, slice_range, subst, suc, sym, take, take-append-add, take-append-drop, take-append_seam, take_all, true, true≢false, zero, ℕ, ◌&&◌, ◌++◌, ◌+◌, ◌-◌, ◌<◌, ◌||◌, ◌↔◌, ◌∙◌, ◌∷◌, ◌≡◌, ◌≤◌}
pub use Rattle.std.proofs.lemmas.List.{length-take}
pub use Rattle.std.proofs.lemmas.Grind.{flat_map-append}
pub use Rattle.bgp_frame.specs.Prelude.{IsFrame, IsFrameIn, IsHeldIn, WaitsIn, content_of_in, head_notification}
pub use Rattle.bgp_frame.specs.declared.kind.WideKind.{WideKind}
pub use Rattle.bgp_terms.specs.Prelude.{Agreed}
pub use Rattle.bgp_wide.specs.Prelude.{WideOutcome, out_in, refreshed}
pub use Rattle.bgp_frame.specs.declared.fault.HeadFault.{HeadFault}
pub use Rattle.bgp_frame.proofs.Contents.{content_of-fault, content_of-frame, content_of-message, content_of-waits}
pub use Rattle.bgp_frame.proofs.Hearings.{all_held, none_waits}
pub use Rattle.bgp_frame.proofs.Holding.{IsHeld_nil}
pub use Rattle.bgp_frame.proofs.Pulls.{nothing_waits}
pub use Rattle.bgp_open.specs.Prelude.{said_by, said_of}
pub use Rattle.bgp_msg.specs.Prelude.{canonical}
pub use Rattle.bgp_clean.specs.Prelude.{IsCleanedIn, WideMessage, base, bases, canonical_in, cleaned_in, cleaned_kind, cleaned_refresh, handed_refresh, octets_handed_in}
pub use Rattle.bgp_clean.specs.declared.fault.CleanFault.{CleanFault}
pub use Rattle.bgp_guard.specs.Prelude.{Answers, CameBy, CameFrom, CameIn, CameOf, CanBeRead, Closed, Counts, EndsBy, EndsContent, EndsHearing, Event, Guarding, Half, HandsOn, HandsOver, HasReason, HasRoom, IsAllHandedOver, IsAnswered, IsAnsweredOr, IsDropped, IsPassedOn, IsHandedOn, IsHandedOver, IsHeardBy, IsKept, IsLast, IsNoNotification, IsOctetIn, IsReadIn, IsReadOpen, IsReadUpdate, IsSettled, WithKeepalives, Life, Octet, RunsOrHasReason, Seen, Sent, Sight, Stalled, Stood, Stopped, Ticked, Trail, Unreached, absent, aged, agreed, answered, answers_to, bad_peer_as, born, both_open, by_event, by_octet, by_octets, came_behind, cleans, closed_if, comes_of, cut_if, direction, dismissed, direction_from, done, expired, farewell, half_behind, half_of, half_with, handed_on, handed_or, handed_to, happens, has_zero, is_dropped, is_due, keepalive, keeps_alive, kept, kept_alive, kept_if, kept_in, reminded, known, left_of, limits_in, refusal, rules_of, quiet_behind, reminder, said_then, heard, heard_as, holding, is_waiting, late, late_answer, life, life_behind, life_from, listens_in, misplaced, notice, octet_by, octet_seen, own_octets, placed, reject_both, rejected, reset_by, runs, said_as, said_in, sent_seen, shutdown, stopped, stopped_if, sight_of, sight_with, stage_behind, subcode_of, ticked_in, told_late, unexpected, waited, Framed, Spoken, not_offered, refused_by, spoken_by, spoken_of, terms_between, terms_in, types}
pub use Rattle.bgp_guard.specs.Guard.{is_empty}
pub use Rattle.bgp_guard.specs.declared.came.Came.{Came}
pub use Rattle.bgp_guard.specs.declared.came.Came.TheVariants.{Dropped}
pub use Rattle.bgp_guard.specs.declared.rules.Rules.{Rules}
pub use Rattle.bgp_guard.specs.declared.side.Side.{Side}
pub use Rattle.bgp_guard.specs.declared.stage.Stage.{Stage}
pub use Rattle.bgp_guard.specs.declared.stage.TheConstants.{OPEN_SECONDS}
