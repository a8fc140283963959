-- The names that other crates and the proofs cite, passed on from one place. Declares nothing.
pub use Rattle.bgp_engine.specs.Tally.{no_tally, status_of}
pub use Rattle.bgp_engine.specs.HexText.{digit_value, is_blank}
unfoldable pub use Rattle.bgp_engine.specs.HexText.{bad_from, spelled}
pub use Rattle.bgp_engine.specs.Output.{AppendsFront, FailsWithin, IsFront}
pub use Rattle.bgp_engine.specs.Report.{IsOver, IsWaiting, Report, behind}
pub use Rattle.bgp_engine.specs.Run.{Answers, Fails, Finishes, Io, IsAllRead, IsBadAt, IsFaultOf, Reports, bad_of, io, stream_of}
pub use Rattle.bgp_engine.specs.Rules.{IsReport, Rules, RulesIn, counted, messages_in, octets_at, passed, report_of, rest_of, total}
pub use Rattle.bgp_engine.specs.Show.{class_of}
pub use Rattle.bgp_engine.specs.ToHex.{Hexed, HexedWith, hex_line}
pub use Rattle.bgp_engine.specs.Check.{CheckedUnder}
pub use Rattle.bgp_engine.specs.Clean.{CleanedBy, CleanedIn, CleanedUnder, start_in, start_under, without_words}
pub use Rattle.bgp_engine.specs.Narrow.{NarrowedUnder}
pub use Rattle.bgp_engine.specs.Refreshed.{grammar_of, is_ignored, is_offered, refresh_span, refreshed}
pub use Rattle.bgp_engine.specs.Wide.{wide_rules}
pub use Rattle.bgp_engine.specs.File.{first_message, first_open, is_part, open_at, open_in}
pub use Rattle.bgp_engine.specs.Agree.{Fit, agreed, any_as4, any_plain, any_terms, fit_of, fitting}
pub use Rattle.bgp_engine.specs.Opens.{CheckedBy, NarrowedBy, ReportedBy, ReportedIn, ShownBy, ShownJsonBy, unagreed, unagreed_end}
pub use Rattle.bgp_engine.specs.Print.{Printed, PrintedBy, PrintedUnder}
pub use Rattle.bgp_engine.specs.First.{ReportedAs, ReportedAt, ReportedFrom, ReportedWith, ReportedWithout, Start, Starts, start_by}
pub use Rattle.bgp_engine.specs.steps.Blocks.{Finished, Meets, MeetsBad, MeetsBlock, MeetsOver, Spells, SpellsNoMore, WritesAll, WritesNone}
pub use Rattle.bgp_engine.specs.steps.Engine.{Closes, ClosesBy, GoesOn, IsTotal, OfOctets, Rests, Takes}
pub use Rattle.bgp_engine.specs.steps.HexDigits.{FirstPair, IsPair, value_or_none}
pub use Rattle.bgp_engine.specs.steps.HexSteps.{Breaks, Continues, ReadsPairs, pending, place}
pub use Rattle.bgp_engine.specs.steps.Pages.{IsAnswer, Plan, Writes, WritesFault, is_last}
pub use Rattle.bgp_engine.specs.steps.Starting.{IsFirst, ReadyAt, Settles, SettlesOn, reports_in, start_of, starting, starts_of}
pub use Rattle.bgp_engine.specs.steps.Walking.{Hears, IsCounting, IsFresh, IsJudged, IsReady, IsTyped, Moves, Walking, all_counts, closing, comes, end_by, ended_by, outcome, reported, reports_of, reset_if, room_of, walk_of, walker, walking}
