-- One message of a batch, and the rows in a list so far.
use Rattle.std.specs.Prelude.{◌≡◌, ◌+◌, ◌-◌, ◌<◌, ◌≤◌, ℕ, false, List, [], ◌++◌, length, drop}
use Rattle.bgp_frame.specs.declared.kind.Kind.{Kind}
use Rattle.bgp_frame.specs.Step.{Frame}
use Rattle.bgp_frame.specs.Step.{Step}
use Rattle.bgp_frame.specs.Prelude.{ShowsFront}
use Rattle.bgp_frame.specs.declared.step.Step.TheVariants as step
use Rattle.bgp_open.specs.declared.context.Context.{Context}
use Rattle.bgp_update.specs.Prelude.{parts_of}
use Rattle.bgp_msg.specs.declared.outcome.Outcome.{Outcome}
use Rattle.bgp_msg.specs.Prelude.{is_reset, out_of}
use Rattle.ristulva_c.specs.Batch.{Giving, IsTaken, EndsAt, outcome_in}

-- an outcome is that of a message with this body
pub record IsViewed (body : List ℕ) (o : Outcome) : Type 0 where
  pub ctx : Context
  pub kind : Kind
  pub outcome : o ≡ out_of ctx (record { kind = kind; body = body })
  pub short : length body ≤ 4077

-- these rows are the first `count` elements of a list, and the others are unchanged
pub record Holds {Row : Type 0} (rows : List Row) (count : ℕ) (list places : List Row) : Type 0 where
  pub stand : list ≡ rows ++ drop count places
  pub counted : length rows ≡ count
  pub room : count ≤ length places

-- these rows are written from one index up to another, after whatever precedes them
abbrev pub Adds : {Row : Type 0} → List Row → ℕ → ℕ → List Row → List Row → Type 0
Adds {Row} rows from to before behind = (first places : List Row) → Holds first from before places → Holds (first ++ rows) to behind places

-- a message that is found is accepted, with its length
pub record TakesFrame {Row : Type 0} (gives : Giving Row) (ctx : Context) (at : ℕ) (f : Frame) (len from to : ℕ) (before behind : List Row) : Type 0 where
  pub whole : len ≡ f.len
  pub goes_on : is_reset (outcome_in ctx f) ≡ false
  pub rows : List Row
  pub given : gives at (parts_of f.body.now) (outcome_in ctx f) rows
  pub adds : Adds rows from to before behind

-- or it isn't
pub record StopsAtFrame {Row : Type 0} (gives : Giving Row) (ctx : Context) (at : ℕ) (f : Frame) (status from : ℕ) (before behind : List Row) : Type 0 where
  pub same : behind ≡ before
  pub ends : EndsAt gives ctx [] at (length before - from) (step.Frame f) status

-- the message at an offset is accepted
pub record Takes {Row : Type 0} (gives : Giving Row) (ctx : Context) (octets : List ℕ) (at len from to : ℕ) (before behind : List Row) : Type 0 where
  pub rows : List Row
  pub taken : IsTaken gives ctx octets at (record { len = len; rows = rows })
  pub some : 0 < len
  pub within : at + len ≤ length octets
  pub adds : Adds rows from to before behind

-- what is at this offset ends the batch
pub record Stops {Row : Type 0} (gives : Giving Row) (ctx : Context) (octets : List ℕ) (at status from : ℕ) (before behind : List Row) : Type 0 where
  pub same : behind ≡ before
  pub found : Step
  pub shows : ShowsFront (drop at octets) found
  pub ends : EndsAt gives ctx octets at (length before - from) found status
