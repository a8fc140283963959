-- The line of a move.
use Rattle.std.specs.Prelude.{ℕ, Bool, true, ◌&&◌, ◌==◌, nat_le, List, [], ◌∷◌, length, Option, Some, None, codes, bytes_eq, if◌then◌else◌}
use Rattle.std.specs.Option.{option_map}
use Rattle.std.specs.Result.{result_ok}
use Rattle.hex.specs.Hex.{decode_of}
use Rattle.bgp_open.specs.Prelude.{Settings}
use Rattle.bgp_open.specs.declared.context.Context.{Context}
use Rattle.bgp_update.specs.declared.update.Update.{Update}
use Rattle.bgp_update.specs.declared.verdict.Verdict.{Verdict}
use Rattle.bgp_update.specs.declared.verdict.Verdict.TheVariants.{Take, Withdraw, Reset}
use Rattle.bgp_update.specs.Prelude.{verdict_of}
use Rattle.bgp_machine.specs.declared.timer.Timer.{Timer}
use Rattle.bgp_session.specs.declared.moves.Move.{Move}
use Rattle.bgp_session.specs.declared.side.Side.{Side}
use Rattle.bgp_session.specs.declared.side.Side.TheVariants.{A, B}
use Rattle.bgp_script.specs.declared.speakers.Speakers.{Speakers}
use Rattle.bgp_wire.specs.Prelude.{◌>>=◌}
use Rattle.bgp_script.specs.Pieces.{one_piece, if_done}
use Rattle.bgp_script.specs.Number.{one_number}

-- ---- sides and timers by name

abbrev pub side_of : List ℕ → Option Side
side_of word =
    if bytes_eq word (codes "a") then Some A else (
    if bytes_eq word (codes "b") then Some B else
    None)

abbrev pub timer_of : List ℕ → Option Timer
timer_of word =
    if bytes_eq word (codes "retry") then Some Timer.Retry else (
    if bytes_eq word (codes "hold") then Some Timer.Hold else (
    if bytes_eq word (codes "keepalive") then Some Timer.Keepalive else
    None))

abbrev pub one_side : List (List ℕ) → Option (Side × List (List ℕ))
one_side words = do
  first ← one_piece words
  side ← side_of first.0
  Some (side, first.1)

-- a side and nothing else
abbrev pub last_side : List (List ℕ) → Option Side
last_side words = do
  side ← one_side words
  if_done side.1 side.0

-- ---- an UPDATE in hexadecimal

-- of 4 to 4077 octets
abbrev pub is_body : List ℕ → Bool
is_body body = nat_le 4 (length body) && nat_le (length body) 4077

abbrev pub body_of : List ℕ → Option (List ℕ)
body_of word = do
  body ← result_ok (decode_of word)
  if is_body body then Some body else None

-- an UPDATE that is accepted without notes
abbrev pub taken : Verdict → Option Update
taken (Take update []) = Some update
taken (Take update (note ∷ notes)) = None
taken (Withdraw routes notes) = None
taken (Reset notification) = None

-- everything is offered, and the session is internal or external as for the speaker
abbrev pub context_of : Settings → Context
context_of speaker = record { internal = speaker.local_as == speaker.peer_as; as4 = true; ip4 = true; ip6 = true; hold = 0 }

unfoldable pub update_of : Settings → List ℕ → Option Update
update_of speaker word = do
  body ← body_of word
  taken (verdict_of (context_of speaker) body)

-- ---- the words after the name of a move

abbrev pub speaker_at : Speakers → Side → Settings
speaker_at speakers A = speakers.a
speaker_at speakers B = speakers.b

-- a count from 1 to 65535 octets
abbrev pub deliver_of : List (List ℕ) → Option Move
deliver_of words = do
  side ← one_side words
  count ← one_number 65535 side.1
  if count.0 == 0 then None else if_done count.1 (Move.Deliver side.0 count.0)

abbrev pub expire_of : List (List ℕ) → Option Move
expire_of words = do
  side ← one_side words
  name ← one_piece side.1
  timer ← timer_of name.0
  if_done name.1 (Move.Expire side.0 timer)

abbrev pub send_of : Speakers → List (List ℕ) → Option Move
send_of speakers words = do
  side ← one_side words
  word ← one_piece side.1
  update ← update_of (speaker_at speakers side.0) word.0
  if_done word.1 (Move.Send side.0 update)

-- the words after a name other than `send`
unfoldable pub plain_of : List ℕ → List (List ℕ) → Option Move
plain_of name words =
    if bytes_eq name (codes "start") then option_map Move.Start (last_side words) else (
    if bytes_eq name (codes "stop") then option_map Move.Stop (last_side words) else (
    if bytes_eq name (codes "join") then if_done words Move.Join else (
    if bytes_eq name (codes "refuse") then option_map Move.Refuse (last_side words) else (
    if bytes_eq name (codes "deliver") then deliver_of words else (
    if bytes_eq name (codes "lose") then if_done words Move.Lose else (
    if bytes_eq name (codes "expire") then expire_of words else
    None))))))

unfoldable pub move_of : Speakers → List (List ℕ) → Option Move
move_of speakers words = do
  first ← one_piece words
  if bytes_eq first.0 (codes "send") then send_of speakers first.1 else plain_of first.0 first.1
