-- The answers and the calls of a wire.
use Rattle.std.specs.Prelude.{◌≡◌, ℕ, ◌+◌, Bool, true, false, nat_lt, List, [], ◌∷◌, ◌++◌, Option, None, Some, if◌then◌else◌}
use Rattle.bgp_session.specs.declared.side.Side.{Side}

-- the failures of a wire after one more answer: the count saturates
abbrev pub failed_after : ℕ → Bool → ℕ
failed_after n true = n
failed_after n false = if nat_lt n 4294967295 then n + 1 else n

-- and after a list of them
abbrev pub failed_behind : ℕ → List Bool → ℕ
failed_behind n [] = n
failed_behind n (answer ∷ later) = failed_behind (failed_after n answer) later

-- ---- its calls

-- to connect both sides, to pass these octets to a side, each with what it answered, and to end the connection
pub data Call : Type 0 where
  Joined : Bool → Call
  Handed : Side → List ℕ → Bool → Call
  Cut : Call

-- the calls so far are kept, and these follow them; no claim where none are kept
abbrev pub Grows : Option (List Call) → Option (List Call) → List Call → Type 0
Grows None new calls = Unit {0}
Grows (Some old) None calls = ⊥
Grows (Some old) (Some new) calls = new ≡ old ++ calls

-- the answers that calls have
abbrev pub answers_in : List Call → List Bool
answers_in [] = []
answers_in (Joined answer ∷ later) = answer ∷ answers_in later
answers_in (Handed to octets answer ∷ later) = answer ∷ answers_in later
answers_in (Cut ∷ later) = answers_in later

-- a wire was called, and gave these answers
pub record HasAnswered (old new : Option (List Call)) (answers : List Bool) : Type 0 where
  pub calls : List Call
  pub grew : Grows old new calls
  pub gave : answers_in calls ≡ answers

-- what else a contract sees of a wire, its failures and its calls; and of an observer
pub record Trace (S : Type 0) : Type 0 where
  pub failed : ℕ
  pub calls : Option (List Call)
  pub seen : S

abbrev pub trace : {S : Type 0} → ℕ → Option (List Call) → S → Trace S
trace failed calls seen = record { failed = failed; calls = calls; seen = seen }
