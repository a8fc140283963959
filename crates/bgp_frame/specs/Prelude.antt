-- Re-exports the names that other crates and the proofs cite. Declares nothing.
pub use Rattle.bgp_frame.specs.Types.{AreTypes, IsLengthIn, Types}
pub use Rattle.bgp_frame.specs.Kind.{IsLength, code_of, is_length, is_length_in, kind_of, least_length, most_length, plain}
pub use Rattle.bgp_frame.specs.WideKind.{wide_code, wide_kind, wide_least, wide_most, wide_types}
pub use Rattle.bgp_frame.specs.Notification.{notification_of_view}
pub use Rattle.bgp_frame.specs.ShortNotification.{notification_with, short_value}
pub use Rattle.bgp_frame.specs.Head.{Header, HeaderIn, has_marker, head_for, head_for_in, head_notification, head_of, header, header_in, length_field, marker, type_field}
unfoldable pub use Rattle.bgp_frame.specs.Head.{head_of_in}
pub use Rattle.bgp_frame.specs.Frame.{IsFrame, IsFrameIn, IsWhole, IsWholeIn, Message, MessageIn, Waits, WaitsIn, octets_of, octets_of_in, wanted, wanted_by}
unfoldable pub use Rattle.bgp_frame.specs.Frame.{wanted_in}
pub use Rattle.bgp_frame.specs.Content.{content, content_in, content_of, content_of_in}
pub use Rattle.bgp_frame.specs.Takes.{Stops, StopsIn, Takes, TakesIn}
pub use Rattle.bgp_frame.specs.Framer.{FramerValue, IsHeld, IsHeldIn}
pub use Rattle.bgp_frame.specs.Step.{Frame, FrameIn, ShowsFront, ShowsFrontIn, ShowsStep, ShowsStepIn, Step, StepIn, message_in}
pub use Rattle.bgp_frame.specs.Pull.{IsPull, IsPullIn, IsToFeed, IsToFeedIn, Pull, PullIn, Pulls, PullsIn}
pub use Rattle.bgp_frame.specs.Stream.{EndsBy, EndsByIn, Gives, GivesIn, GoesOn, HasOneReading, HasOneReadingIn, StreamRules, StreamRulesIn, as_it_is, outcome_of, outcome_of_in}
pub use Rattle.bgp_frame.specs.Hearing.{Calls, CanBeHeard, CountsFed, CountsFedIn, Done, Hearer, IsAtRest, IsContent, IsContentIn, IsFed, IsFedAndJudged, IsPulled, IsReady, Judges, PullsNext, Run, Runs, Way, all_octets, behind, behind_feed, by_feed, by_octet, by_octets, done_by, given, judged, left_to_do, one_if_any, settled, weight, with_octet}
