-- A stream without its ROUTE-REFRESH messages.
use mathlib.Core.Logic.{inl, inr}
use Rattle.std.specs.Prelude.{◌≡◌, ℕ, Bool, false, List, [], ◌∷◌, ◌++◌, is_err}
use Rattle.std.specs.List.{AllByRecursion}
use Rattle.bgp_frame.specs.declared.kind.WideKind.{WideKind}
use Rattle.bgp_frame.specs.declared.kind.WideKind.TheVariants as wide
use Rattle.bgp_frame.specs.Prelude.{Message, MessageIn}
use Rattle.bgp_msg.specs.declared.outcome.Outcome.{Outcome}
use Rattle.bgp_wide.specs.Outcome.{WideOutcome}

abbrev pub base_of : WideKind → List ℕ → List Message
base_of (wide.Base kind) body = record { kind = kind; body = body } ∷ []
base_of wide.Refresh body = []

-- the messages of RFC 4271, in order
abbrev pub bases : List (MessageIn WideKind) → List Message
bases [] = []
bases (m ∷ later) = base_of m.kind m.body ++ bases later

abbrev pub base_outcome : ℕ → WideOutcome → List (ℕ × Outcome)
base_outcome n (inl o) = (n, o) ∷ []
base_outcome n (inr r) = []

-- their outcomes, and that of a header with a fault
abbrev pub base_outcomes : List (ℕ × WideOutcome) → List (ℕ × Outcome)
base_outcomes [] = []
base_outcomes (o ∷ later) = base_outcome o.0 o.1 ++ base_outcomes later

abbrev pub is_refused : WideOutcome → Bool
is_refused (inl o) = false
is_refused (inr r) = is_err r

-- each ROUTE-REFRESH is accepted
abbrev pub AreAccepted : List (ℕ × WideOutcome) → Type 0
AreAccepted = AllByRecursion (λ o. is_refused o.1 ≡ false)
