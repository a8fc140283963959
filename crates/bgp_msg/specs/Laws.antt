-- What the laws of messages claim of a message that was accepted, and of one that was written.
use Rattle.std.specs.Prelude.{◌≡◌, ◌≤◌, ℕ, List, [], length, None}
use Rattle.bgp_frame.specs.Prelude.{IsFrame}
use Rattle.bgp_open.specs.declared.context.Context.{Context}
use Rattle.bgp_open.specs.Prelude.{HasRanges}
use Rattle.bgp_update.specs.Prelude.{HasUpdateRanges}
use Rattle.bgp_msg.specs.declared.message.Message.{Message}
use Rattle.bgp_msg.specs.declared.message.Message.TheVariants as message
use Rattle.bgp_msg.specs.declared.outcome.Outcome.TheVariants.{Took}
use Rattle.bgp_msg.specs.Outcome.{out_of}
use Rattle.bgp_msg.specs.Written.{written, canonical, invalid_of}

-- the message can be written in the context, and is no longer than these octets
pub record CanBeWritten (ctx : Context) (m : Message) (octets : List ℕ) : Type 0 where
  pub valid : invalid_of ctx m ≡ None
  pub no_longer : length (canonical ctx m) ≤ length octets

-- each number is within its field, and each prefix one of its family, as in each value of the program
abbrev pub HasMessageRanges : Message → Type 0
HasMessageRanges (message.Open o) = HasRanges o
HasMessageRanges (message.Update u) = HasUpdateRanges u
HasMessageRanges _ = Unit {0}

-- what is written is a whole message, which decodes to the message itself, without notes
pub record IsTakenAsItself (ctx : Context) (m : Message) : Type 0 where
  pub whole : IsFrame (written ctx m) (canonical ctx m)
  pub taken : out_of ctx (written ctx m) ≡ Took m []
