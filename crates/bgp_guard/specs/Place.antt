-- Which messages are out of place, and what they are answered by (RFC 4271, sections 6.6 and 8.2.2; RFC 6608, section 3).
use Rattle.std.specs.Prelude.{ℕ, Bool, false, not, ◌&&◌, Option, None, Some, is_some, if◌then◌else◌}
use Rattle.bgp_numbers.specs.declared.error.TheConstants.{UNEXPECTED_IN_OPEN_SENT, UNEXPECTED_IN_OPEN_CONFIRM, UNEXPECTED_IN_ESTABLISHED}
use Rattle.bgp_frame.specs.declared.kind.Kind.{Kind}
use Rattle.bgp_frame.specs.declared.kind.WideKind.{WideKind}
use Rattle.bgp_frame.specs.declared.kind.WideKind.TheVariants as wide
use Rattle.bgp_guard.specs.Guard.{Sight}

-- both OPENs were passed on
abbrev pub both_open : Sight → Bool
both_open s = is_some s.this.peer && is_some s.other.peer

-- an OPEN comes once, a KEEPALIVE after both OPENs, an UPDATE and a ROUTE-REFRESH after its side's own KEEPALIVE; a NOTIFICATION at any time
abbrev pub is_misplaced : Sight → WideKind → Bool
is_misplaced s (wide.Base Kind.Open) = is_some s.this.peer
is_misplaced s (wide.Base Kind.Update) = not (both_open s && s.this.ready)
is_misplaced s (wide.Base Kind.Notification) = false
is_misplaced s (wide.Base Kind.Keepalive) = not (both_open s)
is_misplaced s wide.Refresh = not (both_open s && s.this.ready)

-- the subcode says the state of the side
abbrev pub subcode_of : Sight → ℕ
subcode_of s =
    if both_open s then (if s.this.ready then UNEXPECTED_IN_ESTABLISHED else UNEXPECTED_IN_OPEN_CONFIRM) else UNEXPECTED_IN_OPEN_SENT

abbrev pub misplaced : Sight → WideKind → Option ℕ
misplaced s kind = if is_misplaced s kind then Some (subcode_of s) else None
