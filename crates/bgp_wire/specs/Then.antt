-- Steps, each of which may fail.
use Rattle.std.specs.Prelude.{Bool, Option, Some, None, if◌then◌else◌}

-- the second step, applied to the result of the first
infixl 10 ◌>>=◌
abbrev pub ◌>>=◌ : {A B : Type 0} → Option A → (A → Option B) → Option B
None >>= f = None
Some x >>= f = f x

-- an answer, where its test applies
abbrev pub when : {A : Type 0} → Bool → A → Option A
when applies answer = if applies then Some answer else None
