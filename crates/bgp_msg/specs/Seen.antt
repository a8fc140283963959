-- The outcomes of a stream of octets in a context, and how it ends.
use Rattle.std.specs.Prelude.{ℕ, List}
use Rattle.bgp_frame.specs.Prelude.{Gives}
use Rattle.bgp_open.specs.declared.context.Context.{Context}
use Rattle.bgp_msg.specs.declared.seen.Seen.{Seen}
use Rattle.bgp_msg.specs.Outcome.{stream_rules}

-- The stream is whole messages in order and a rest: each has its outcome, and the length that its header says, up to the first reset; a
-- header's fault is the last outcome, of length 0; else the rest is an incomplete message
abbrev pub IsSeen : Context → List ℕ → Seen → Type 0
IsSeen ctx stream seen = Gives (stream_rules ctx) stream seen.outs seen.end
