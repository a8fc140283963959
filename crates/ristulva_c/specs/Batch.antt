-- Batches: messages in sequence, as rows in the caller's list.
use Rattle.std.specs.Prelude.{◌≡◌, ◌+◌, ◌-◌, ◌<◌, ◌≤◌, ◌==◌, ◌⊎◌, ℕ, true, false, List, [], ◌∷◌, ◌++◌, length, drop, Option, if◌then◌else◌}
use Rattle.bgp_frame.specs.Step.{Frame}
use Rattle.bgp_frame.specs.Step.{Step}
use Rattle.bgp_frame.specs.Prelude.{ShowsFront}
use Rattle.bgp_frame.specs.declared.step.Step.TheVariants as step
use Rattle.bgp_open.specs.declared.context.Context.{Context}
use Rattle.bgp_update.specs.Prelude.{Parts, parts_of}
use Rattle.bgp_msg.specs.declared.outcome.Outcome.{Outcome}
use Rattle.bgp_msg.specs.Prelude.{is_reset, out_of}
use Rattle.ristulva_c.specs.declared.status.TheConstants.{INCOMPLETE, OK, REFUSED, ROOM}

-- which rows a message gives: by its offset, its parts, and its outcome
abbrev pub Giving : Type 0 → Type 1
Giving Row = ℕ → Option Parts → Outcome → List Row → Type 0

-- the outcome of a message that is found
abbrev pub outcome_in : Context → Frame → Outcome
outcome_in ctx f = out_of ctx (record { kind = f.kind; body = f.body.now })

-- ---- the accepted messages

-- an accepted message: its length, and its rows
pub record Taken (Row : Type 0) : Type 0 where
  pub len : ℕ
  pub rows : List Row

-- a whole message begins at an offset, it doesn't end the session, and these are its rows
pub record IsTaken {Row : Type 0} (gives : Giving Row) (ctx : Context) (octets : List ℕ) (at : ℕ) (t : Taken Row) : Type 0 where
  pub frame : Frame
  pub shows : ShowsFront (drop at octets) (step.Frame frame)
  pub len : t.len ≡ frame.len
  pub goes_on : is_reset (outcome_in ctx frame) ≡ false
  pub rows : gives at (parts_of frame.body.now) (outcome_in ctx frame) t.rows

-- each begins where the previous one ends
abbrev pub Stand : {Row : Type 0} → Giving Row → Context → List ℕ → ℕ → List (Taken Row) → Type 0
Stand gives ctx octets at [] = Unit {0}
Stand gives ctx octets at (t ∷ later) = IsTaken gives ctx octets at t × Stand gives ctx octets (at + t.len) later

-- their total length, and the rows of all, in order
abbrev pub octets_taken : {Row : Type 0} → List (Taken Row) → ℕ
octets_taken [] = 0
octets_taken (t ∷ later) = t.len + octets_taken later

abbrev pub rows_taken : {Row : Type 0} → List (Taken Row) → List Row
rows_taken [] = []
rows_taken (t ∷ later) = t.rows ++ rows_taken later

-- ---- what ends a batch

-- the message after the accepted ones doesn't end the session, and has more rows than there is room for: no more than 4073, for which any list has
-- room
pub record IsFull {Row : Type 0} (gives : Giving Row) (ctx : Context) (at room : ℕ) (f : Frame) : Type 0 where
  pub goes_on : is_reset (outcome_in ctx f) ≡ false
  pub rows : List Row
  pub given : gives at (parts_of f.body.now) (outcome_in ctx f) rows
  pub more : room < length rows
  pub few : length rows ≤ 4073

-- by what follows the accepted messages: less than a message, perhaps nothing; a message that ends the session, or whose rows have no room; or a
-- header with a fault
abbrev pub EndsAt : {Row : Type 0} → Giving Row → Context → List ℕ → ℕ → ℕ → Step → ℕ → Type 0
EndsAt gives ctx octets at room step.More status = status ≡ (if at == length octets then OK else INCOMPLETE)
EndsAt gives ctx octets at room (step.Frame f) status =
    ((status ≡ REFUSED) × (is_reset (outcome_in ctx f) ≡ true)) ⊎ ((status ≡ OK) × IsFull gives ctx at room f)
EndsAt gives ctx octets at room (step.Fault fault) status = status ≡ REFUSED

-- ---- a call

-- what a call has: its status, and the caller's memory before and after it
pub record Batching (Row : Type 0) : Type 0 where
  pub status : ℕ
  pub before : List Row
  pub behind : List Row
  pub written_before : ℕ
  pub written_behind : ℕ
  pub taken_before : ℕ
  pub taken_behind : ℕ

-- nothing is changed
pub record IsLeft {Row : Type 0} (answer : ℕ) (b : Batching Row) : Type 0 where
  pub status : b.status ≡ answer
  pub list : b.behind ≡ b.before
  pub written : b.written_behind ≡ b.written_before
  pub taken : b.taken_behind ≡ b.taken_before

-- the rows of the accepted messages are the list's first elements, and the others are unchanged
pub record TakesAll {Row : Type 0} (gives : Giving Row) (ctx : Context) (octets : List ℕ) (b : Batching Row) : Type 0 where
  pub messages : List (Taken Row)
  pub stand : Stand gives ctx octets 0 messages
  pub taken : b.taken_behind ≡ octets_taken messages
  pub within : b.taken_behind ≤ length octets
  pub written : b.written_behind ≡ length (rows_taken messages)
  pub fit : b.written_behind ≤ length b.before
  pub list : b.behind ≡ rows_taken messages ++ drop b.written_behind b.before
  pub found : Step
  pub shows : ShowsFront (drop b.taken_behind octets) found
  pub ends : EndsAt gives ctx octets b.taken_behind (length b.before - b.written_behind) found b.status

-- the list has room for the rows of any message, or nothing is done
abbrev pub IsBatch : {Row : Type 0} → Giving Row → Context → List ℕ → Batching Row → Type 0
IsBatch gives ctx octets b =
    ((4073 ≤ length b.before) × TakesAll gives ctx octets b) ⊎ ((length b.before < 4073) × IsLeft ROOM b)
