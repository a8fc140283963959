-- Re-exports the names that other crates and the proofs cite. Declares nothing.
pub use Rattle.bgp_host.specs.Records.{Call, Grows, Notice, Sent, Sought, Tick}
pub use Rattle.bgp_host.specs.Deeds.{Answers, Asks, CarriesOut, Deed, Records, actions_of, all_calls, calls_of, link_behind, link_of, notices_of, sends, sent, sought, ticks_of}
pub use Rattle.bgp_host.specs.Turns.{ArePulls, Cause, Gave, Gives, Goes, Heard, HearsAll, HearsSome, Hosted, IsDue, Runs, RunsFrom, SendsOne, Told, Turn, cause_if_free, causes_of, first_calls, first_link, hosted, link_after, turn_notices, turn_ticks}
pub use Rattle.bgp_host.specs.steps.Steps.{Acts, IsNotUp, OneTurn, PullsNone, PullsOn, PullsOnce, taken_by}
