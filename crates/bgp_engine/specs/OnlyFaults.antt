-- What `--only-faults` prints of the outcomes of a stream.
use Rattle.std.specs.Prelude.{ℕ, Bool, true, false, List, [], ◌∷◌, Option, if◌then◌else◌}
use Rattle.bgp_engine.specs.Below.{Outcome, Refresh, Span}
use Rattle.bgp_engine.specs.Refreshed.{is_ignored}
use Rattle.bgp_msg.specs.declared.message.Message.TheVariants as message

-- every outcome but one accepted without a note, and each NOTIFICATION
abbrev pub is_fault : Outcome → Bool
is_fault (Outcome.Took (message.Notification n) notes) = true
is_fault (Outcome.Took m []) = false
is_fault (Outcome.Took m (note ∷ notes)) = true
is_fault (Outcome.Withdraw routes notes) = true
is_fault (Outcome.Reset n) = true

-- which outcomes, and which ROUTE-REFRESH, are printed
pub record Chosen : Type 0 where
  pub outcome : Outcome → Bool
  pub refresh : Refresh → Bool

-- all of them, or these, and a ROUTE-REFRESH without effect
abbrev pub chosen : Bool → Chosen
chosen false = record { outcome = λ _. true; refresh = λ _. true }
chosen true = record { outcome = is_fault; refresh = is_ignored }

-- the text of an outcome, where it is one of these
abbrev pub where_fault : (ℕ → ℕ → Option Span → Outcome → List ℕ) → ℕ → ℕ → Option Span → Outcome → List ℕ
where_fault shown place len span o = if is_fault o then shown place len span o else []
