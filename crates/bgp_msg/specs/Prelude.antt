-- The names that other crates and the proofs cite, passed on from one place. Declares nothing.
pub use Rattle.bgp_msg.specs.Outcome.{is_reset, notification_in, of_body, of_fault, of_open_fault, of_reading, of_verdict, out_of, stream_rules}
pub use Rattle.bgp_msg.specs.OutcomeView.{has_lists, outcome_value}
pub use Rattle.bgp_msg.specs.Written.{body_of, canonical, invalid_of, invalid_open, is_too_long, is_valid, kind_of, notification_octets, written}
pub use Rattle.bgp_msg.specs.Decoder.{Decoding, FrontTakesMemory, Going, IsBehind, IsFed, IsFedAndNext, IsNext, IsPulled, TakesMemory, behind, decoder, fresh, given_by, holding}
pub use Rattle.bgp_msg.specs.Look.{IsLook}
pub use Rattle.bgp_msg.specs.Laws.{CanBeWritten, HasMessageRanges, IsTakenAsItself}
pub use Rattle.bgp_msg.specs.steps.Decoding.{Decodes, IsLater, IsTaken, Stands, end_behind}
pub use Rattle.bgp_msg.specs.steps.Early.{IsAtFront}
pub use Rattle.bgp_msg.specs.steps.Room.{refusal_of, room_of}
