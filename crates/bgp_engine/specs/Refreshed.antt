-- What is read and written of a ROUTE-REFRESH (RFC 2918; RFC 7313).
use Rattle.std.specs.Prelude.{ℕ, Bool, true, false, List, [], Option, Some, Ok, Err, if◌then◌else◌}
use Rattle.bgp_refresh.specs.declared.mark.RefreshMark.{RefreshMark}
use Rattle.bgp_refresh.specs.declared.mark.RefreshMark.TheVariants as mark
use Rattle.bgp_engine.specs.Below.{Outcome, Refresh, Span}
use Rattle.bgp_msg.specs.declared.outcome.Outcome.TheVariants as outcome
pub use Rattle.bgp_wide.specs.Prelude.{Refreshed, grammar_of, is_offered, refreshed}

-- the subtype has no meaning, so that the message has no effect
abbrev pub is_ignored_mark : RefreshMark → Bool
is_ignored_mark mark.Request = false
is_ignored_mark mark.Begin = false
is_ignored_mark mark.End = false
is_ignored_mark (mark.Ignored subtype) = true

abbrev pub is_ignored : Refresh → Bool
is_ignored r = is_ignored_mark r.mark

-- the octets at fault in a ROUTE-REFRESH: those of its Length
abbrev pub refresh_span : Span
refresh_span = record { at = 16; len = 2 }

-- the text of a ROUTE-REFRESH, or that of the reset by one
abbrev pub refresh_shown : (ℕ → ℕ → Option Span → Outcome → List ℕ) → (ℕ → ℕ → Refresh → List ℕ) → ℕ → ℕ → List ℕ → Refreshed → List ℕ
refresh_shown shown shown_refresh place len octets (Ok r) = shown_refresh place len r
refresh_shown shown shown_refresh place len octets (Err n) = shown place len (Some refresh_span) (outcome.Reset n)

-- the text, where it has no effect
abbrev pub where_ignored : (ℕ → ℕ → Refresh → List ℕ) → ℕ → ℕ → Refresh → List ℕ
where_ignored shown place len r = if is_ignored r then shown place len r else []

-- nothing is written of it
abbrev pub unwritten : ℕ → ℕ → List ℕ → Refreshed → List ℕ
unwritten place len octets r = []

-- its octets, where it is accepted
abbrev pub copied : ℕ → ℕ → List ℕ → Refreshed → List ℕ
copied place len octets (Ok r) = octets
copied place len octets (Err n) = []
