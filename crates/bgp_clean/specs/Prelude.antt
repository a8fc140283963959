-- The names that other crates and the proofs cite, passed on from one place. Declares nothing.
pub use Rattle.bgp_clean.specs.Opens.{Seen, cleaned_open, cleaned_open_with, goes_on, is_multi, lacks_family, none_seen, seen_behind, seen_for, understood, understood_behind, understood_with}
pub use Rattle.bgp_clean.specs.Updates.{bare_family, cleaned_attrs, cleaned_update, end_of, end_of_rib, end_unreach, family_of_kept, family_of_marks, gone_routes, has_any, hop_part, listed, nlri_part, nlri_routes, parts_handed, reach_left, reached_part, reached_routes, unless_refused, unreach_of, withdrawal}
pub use Rattle.bgp_clean.specs.Clean.{cleaned, cleaned_outcome, cleaned_with, ended_family, family_in, handed, handed_open, handed_update, or_keepalive}
pub use Rattle.bgp_clean.specs.Lesson.{Announced, Lesson, all_of, announced_lesson, announced_nlri, announced_reached, bare_attrs, both, gone_lesson, hop_of, lesson, lesson_by, lesson_in, lesson_of, lesson_with, link_of, no_lesson, taught_by}
pub use Rattle.bgp_clean.specs.Stream.{cleaned_each, cleaned_from, cleaned_stream, handed_then, joined_messages}
pub use Rattle.bgp_clean.specs.Laws.{AreNoLonger, AreUnchanged, IsClean, IsCleanStream, IsCleanWith, NoLonger, lesson_from, outcome_of}
pub use Rattle.bgp_clean.specs.Cleaned.{IsCleaned, octets_handed}
pub use Rattle.bgp_clean.specs.Wide.{HasBaseLength, IsCleanedIn, WideMessage, base, bases, canonical_in, cleaned_in, cleaned_kind, cleaned_refresh, fault_by, handed_refresh, has_effect, is_heeded, is_of_family, octets_handed_in}
pub use Rattle.bgp_clean.specs.Limits.{breaks, no_limits, refuses_in}
pub use Rattle.bgp_clean.specs.steps.Seen.{seen_value}
