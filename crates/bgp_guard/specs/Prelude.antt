-- The names that other crates and the proofs cite, passed on from one place. Declares nothing.
pub use Rattle.bgp_guard.specs.Guard.{Framed, Guarding, Half, Sight, Spoken, absent, closes, fresh, half, has_ended, listens, listens_in, other_side, rules_of, runs, spoken_by, spoken_of, types}
pub use Rattle.bgp_guard.specs.Halves.{HasRoom, half_of, half_with}
pub use Rattle.bgp_guard.specs.Place.{both_open, misplaced, subcode_of}
pub use Rattle.bgp_guard.specs.Answers.{Answers, answered, bad_peer_as, expired, late_answer, not_offered, notice, reject_both, rejected, reset_by, reset_over, shutdown, unexpected}
pub use Rattle.bgp_guard.specs.Hearing.{agreed, answers_to, by_octet, by_octets, cleans, comes_of, done, first_as_in, handed_on, handed_or, handed_to, has_zero, heard, heard_as, holding, is_dropped, is_of_zero, known, left_of, limits_in, neighbour_as, number_in, octet_by, placed, quiet_behind, refusal, refused_by, said_as, stage_behind, terms_between, terms_in}
pub use Rattle.bgp_guard.specs.Events.{aged, closed, closed_if, cut_if, dismissed, farewell, for_side, is_due, is_waiting, keepalive, keeps_alive, kept, kept_alive, kept_if, kept_in, late, reminded, reminder, seconds_or, sent, stall_seconds, stalled, stood, stopped, stopped_if, ticked, ticked_in, told_late, unreached, waited}
pub use Rattle.bgp_guard.specs.Came.{CameBy, CameFrom, CameIn, CameOf, Counts, IsAnswered, IsDropped, IsHandedOn, IsPassedOn, IsHeard, IsHeardBy}
pub use Rattle.bgp_guard.specs.Life.{Closed, Event, Life, Octet, Seen, Sent, Stalled, Stood, Stopped, Ticked, Trail, Unreached, born, by_event, came_behind, happens, life, life_behind, life_from, octet_seen, sent_seen}
pub use Rattle.bgp_guard.specs.Laws.{EndsBy, EndsContent, EndsHearing, HandsOn, HandsOver, HasReason, IsAllHandedOver, IsAnsweredOr, IsHandedOver, IsKept, IsLast, IsNoNotification, IsOctetIn, RunsOrHasReason, WithKeepalives, direction, direction_from, own_octets, said_then}
pub use Rattle.bgp_guard.specs.steps.Seeing.{CanBeRead, IsReadIn, IsReadOpen, IsReadUpdate, IsSettled, half_behind, said_in, sight_of, sight_with}
