-- The first message of a piece: what private functions cite.
use Rattle.std.specs.Prelude.{◌≡◌, ℕ, List, [], Option, Some, None}
use Rattle.bgp_update.specs.declared.note.Note.{Note}
use Rattle.bgp_update.specs.declared.update.Update.{Update}
use Rattle.bgp_msg.specs.declared.message.Message.TheVariants as message
use Rattle.bgp_msg.specs.declared.outcome.Outcome.{Outcome}
use Rattle.bgp_msg.specs.declared.outcome.Outcome.TheVariants as outcome
use Rattle.bgp_msg.specs.Decoder.{Decoding, behind, IsPulled}

-- nothing is held, and a pull gives this outcome, of a message of the length that it consumes
abbrev pub IsAtFront : Decoding → List ℕ → ℕ → Outcome → Type 0
IsAtFront d piece n o = (d.held ≡ []) × IsPulled d piece n (Some (n, o)) (behind d o)

-- an UPDATE that is accepted
abbrev pub IsEarly : Decoding → List ℕ → Option (ℕ × Update × List Note) → Type 0
IsEarly d piece (Some (n, u, notes)) = IsAtFront d piece n (outcome.Took (message.Update u) notes)
IsEarly d piece None = Unit {0}
