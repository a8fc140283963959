-- The names of std, of the crates below and of this crate that its proofs cite, passed on from one place. Declares nothing.
pub use Rattle.bgp_wire.proofs.Std.{AllByRecursion, Bool, Err, List, None, Ok, OnOk, Option, Result, Some, [], ap, append_assoc, ap₂, arith, both_ways, cond, drop, false, if◌then◌else◌, inl, inr, length, list_any, ltb-false, map, nil_from_length, on_ok_weaker, option_map, or_parts, refl, subst, sym, take, true, zero, suc, ℕ, ◌++◌, ◌∙◌, ◌∷◌, ◌≡◌, ◌≤◌, ◌⊎◌}
pub use Rattle.bgp_frame.specs.Prelude.{Calls, CountsFed, IsContent, IsFedAndJudged, IsFrame, IsHeld, IsPull, IsReady, IsToFeed, Judges, Message, Pulls, Run, Runs, Waits, Way, by_feed, content_of, done_by}
pub use Rattle.bgp_frame.specs.declared.fault.HeadFault.{HeadFault}
pub use Rattle.bgp_frame.specs.declared.kind.Kind.{Kind}
pub use Rattle.bgp_frame.specs.declared.notification.Notification.{Notification}
pub use Rattle.bgp_frame.proofs.Contents.{content_of-fault, content_of-frame, content_of-message}
pub use Rattle.bgp_frame.proofs.Hearings.{IsHearer, IsWay, SomeCall, can_be_heard, can_feed, can_pull, content_stops, empty_waits, fed_holds, feed_is_way, judged_empty, not_both, not_whole, pull_is_way, rests_empty, rests_ready, runs_agree, runs_settle, settled_by, waits_at}
pub use Rattle.bgp_open.specs.Prelude.{Said, Settings, agreement, open_notification, reading_of, said_by}
pub use Rattle.bgp_open.specs.declared.context.Context.{Context}
pub use Rattle.bgp_update.specs.Prelude.{HasNoAs4, HasUpdateRanges, attr_list, canonical_order, has_value, invalid_of, narrow_aggregator, narrowed, narrowed_update, present, verdict_of, wide_aggregator, wide_path, with_as4}
unfoldable pub use Rattle.bgp_update.specs.Prelude.{slot}
pub use Rattle.bgp_update.specs.declared.update.Update.{Update}
pub use Rattle.bgp_update.proofs.Widths.{by_narrowed, narrowed_update_is_valid, same-slot, wide_update_has_no_as4}
pub use Rattle.bgp_machine.specs.Look.{Looked}
pub use Rattle.bgp_machine.specs.Prelude.{BeginsByOpenAndKeepalive, Call, CanRest, Eats, Fed, Finds, FrontTakesMemory, Goes, Going, Hears, HearsFault, HeldTakesMemory, IsAgreedOpen, IsAtRest, IsFed, IsFedAndStepped, IsJudged, IsOwnLook, IsPulled, IsRefused, IsSaid, IsSent, IsTellFault, LacksMemory, Life, Lives, Machine, Pulled, SaysVerdict, Standing, Step, Stepped, StepsUntilNone, TakesMemory, Told, action_of, after_event, answered, born, by_look, by_one_step, by_pull, by_steps, cease, connects, context_in, disarmed, established_in, flushed, fresh, gone, happens, has_routes, hearer, hears, held_too_long, holding, is_mixed, is_told_too_long, keepalive_on, kept, listens, on_agreement, on_event, on_heard, on_message, on_open, on_update, on_verdict, only_if, or_mixed, refusal_at, refusal_of, runs, state_in, step_of, stepped, suits, taken_behind, told, told_octets, told_with, unless_invalid, why_unsent}
pub use Rattle.bgp_machine.specs.declared.action.Action.{Action}
pub use Rattle.bgp_machine.specs.declared.event.Event.{Event}
pub use Rattle.bgp_machine.specs.declared.heard.Heard.{Heard}
pub use Rattle.bgp_machine.specs.declared.state.State.{State}
pub use Rattle.bgp_machine.specs.declared.timer.Timer.{Timer}
