-- Steps of decoding a stream: the outcome of consumed octets, and how the stream continues after them.
use Rattle.std.specs.Prelude.{◌≡◌, ◌==◌, ◌<◌, ◌≤◌, ℕ, false, List, [], ◌++◌, length, take, Option, None, Some, if◌then◌else◌}
use Rattle.bgp_frame.specs.declared.end.End.{End}
use Rattle.bgp_frame.specs.Prelude.{Waits, Gives}
use Rattle.bgp_frame.specs.declared.end.End.TheVariants as end
use Rattle.bgp_open.specs.declared.context.Context.{Context}
use Rattle.bgp_msg.specs.declared.outcome.Outcome.{Outcome}
use Rattle.bgp_msg.specs.Outcome.{stream_rules}
use Rattle.bgp_msg.specs.Decoder.{Decoding, holding, IsNext}

-- octets are consumed up to the end of a message, and this is the outcome of what is held then
pub record IsTaken (old : Decoding) (octets : List ℕ) (n : ℕ) (found : Option (ℕ × Outcome)) (new : Decoding) : Type 0 where
  pub some : 0 < n
  pub within : n ≤ length octets
  pub next : IsNext (holding old (old.held ++ take n octets)) found new

-- after what was consumed the stream has ended, or it continues from the held octets
abbrev pub IsLater : Context → Option End → List ℕ → List (ℕ × Outcome) → End → Type 0
IsLater ctx None stream others e = Gives (stream_rules ctx) stream others e
IsLater ctx (Some ended) stream others e = (others ≡ []) × (e ≡ ended)

abbrev pub Stands : Context → Option End → Decoding → Type 0
Stands ctx None new = (new.stopped ≡ false) × (new.ctx ≡ ctx) × Waits new.held
Stands ctx (Some ended) new = Unit {0}

-- all octets but the rest were consumed: these outcomes are reported, and any later outcomes follow them
pub record Decodes (old : Decoding) (octets : List ℕ) (before outs : List (ℕ × Outcome)) (rest : List ℕ) (ended : Option End) (new : Decoding) : Type 0 where
  pub stands : Stands old.ctx ended new
  pub fresh : List (ℕ × Outcome)
  pub told : outs ≡ before ++ fresh
  pub later : (more : List ℕ) (others : List (ℕ × Outcome)) (e : End) → IsLater old.ctx ended (new.held ++ (rest ++ more)) others e
      → Gives (stream_rules old.ctx) (old.held ++ (octets ++ more)) (fresh ++ others) e

-- how the stream ends after a reset whose message has this length: 0 for a header's fault
abbrev pub end_behind : ℕ → End
end_behind n = if n == 0 then end.Head else end.Reset
