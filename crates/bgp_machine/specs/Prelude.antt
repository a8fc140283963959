-- The names that other crates and the proofs cite, passed on from one place. Declares nothing.
pub use Rattle.bgp_machine.specs.ActionView.{action_of, takes_memory}
pub use Rattle.bgp_machine.specs.Cutting.{AreStepped, CanBeFed, CanRest, Cuts, Done, IsAtRest, Piece, RestsBehind, RestsUnless, StepsOn, StepsUntilNone, by_octet, by_octets, by_one_step, by_steps, joined, settled}
pub use Rattle.bgp_machine.specs.Heard.{Hears, HearsFault, IsFaultOf, IsHeardOf, IsSaid, SaysVerdict, has_routes, on_heard, suits}
pub use Rattle.bgp_machine.specs.Life.{BeginsByOpenAndKeepalive, Call, Eats, Fed, Goes, IsAgreedOpen, Life, Lives, Pulled, Stepped, Told, born, connects, stepped, taken_behind, told}
pub use Rattle.bgp_machine.specs.Look.{Finds, IsLook, IsOwnLook, gone, step_of}
pub use Rattle.bgp_machine.specs.Pulling.{FrontTakesMemory, IsFedAndStepped, IsPulled, where_found}
pub use Rattle.bgp_machine.specs.Run.{CanBePulled, by_look, by_pull}
pub use Rattle.bgp_machine.specs.Sending.{IsPutFault, IsRefused, IsSent, IsTellFault, LacksMemory, is_mixed, is_told_too_long, keepalive_on, or_mixed, refusal_at, refusal_in, refusal_of, told_in, told_octets, told_with, unless_invalid, why_unsent}
pub use Rattle.bgp_machine.specs.Session.{Going, HeldTakesMemory, IsFed, IsJudged, Machine, TakesMemory, after_event, after_step, fresh, hearer, holding, judged, keepalive_octets, kept, notification_octets}
unfoldable pub use Rattle.bgp_machine.specs.Session.{own_octets}
pub use Rattle.bgp_machine.specs.Standing.{Standing, agreed, context_in, established_in, expired, hold_in, listens, peer_in, runs, state_in, timers_with}
pub use Rattle.bgp_machine.specs.Table.{Step, accepted, answered, cease, disarmed, flushed, go, happens, hears, held_too_long, hold_on, leave, on_agreement, on_event, on_message, on_open, on_update, on_verdict, only_if, reset, timers_behind, unexpected}
pub use Rattle.bgp_machine.specs.steps.Ready.{IsReady, left_to_do, weight}
