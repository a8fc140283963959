-- Re-exports the names of std, of the crates below and of this crate that its proofs cite. Declares nothing.
pub use Rattle.bgp_machine.proofs.Prelude.{IsPulled, IsSent, Machine, Standing, disarmed, flushed, happens, hearer, kept, listens, on_event, only_if}
pub use Rattle.bgp_wire.proofs.Std.{Bool, Err, List, None, Ok, OnErr, Option, Result, Some, [], ap, append_assoc, ap₂, arith, drop, false, flat_map, flat_map-append, if◌then◌else◌, inl, inr, length, map-append, nat_lt, refl, subst, suc, sym, true, zero, ℕ, ◌++◌, ◌<◌, ◌∙◌, ◌∷◌, ◌≡◌, ◌≤◌, ◌⊎◌}
pub use Rattle.std.proofs.lemmas.List.{append-nil}
pub use Rattle.arrayvec.specs.ArrayVec.{ArrayVec}
pub use Rattle.bgp_machine.specs.Prelude.{own_octets, weight, where_found}
pub use Rattle.bgp_machine.specs.declared.event.Event.TheVariants.{Connected, Failed}
pub use Rattle.bgp_machine.specs.declared.action.Action.{Action}
pub use Rattle.bgp_machine.specs.declared.state.State.{State}
pub use Rattle.bgp_host.specs.Prelude.{Acts, Answers, ArePulls, Asks, Call, CarriesOut, Cause, Deed, Gave, Gives, Goes, Grows, Heard, HearsAll, HearsSome, Hosted, IsDue, IsNotUp, Notice, OneTurn, PullsNone, PullsOn, PullsOnce, Records, Runs, RunsFrom, SendsOne, Sent, Tick, Told, Turn, actions_of, all_calls, calls_of, cause_if_free, causes_of, first_calls, first_link, hosted, link_after, link_behind, link_of, notices_of, sends, sent, taken_by, ticks_of, turn_notices, turn_ticks}
pub use Rattle.bgp_host.specs.declared.link.Link.{Link}
pub use Rattle.bgp_host.specs.declared.link.Link.TheVariants.{Down, Same, Up}
