-- The verdict on the body of an UPDATE (RFC 4271, section 6.3; RFC 7606, sections 2 to 5).
use Rattle.std.specs.Prelude.{ℕ, Bool, true, false, ◌||◌, ◌==◌, List, [], ◌∷◌, length, Option, None, Some, if◌then◌else◌}
use Rattle.std.specs.List.{list_any}
use Rattle.std.specs.Option.{option_or}
use Rattle.bgp_numbers.specs.declared.error.TheConstants.{UPDATE_MESSAGE, INVALID_NETWORK_FIELD}
use Rattle.bgp_frame.specs.declared.notification.Notification.{Notification}
use Rattle.bgp_open.specs.declared.context.Context.{Context}
use Rattle.bgp_prefix.specs.Prelude.{run_of}
use Rattle.bgp_attr.specs.declared.judged.Judged.{Judged}
use Rattle.bgp_attr.specs.declared.judged.Judged.TheVariants as judged
use Rattle.bgp_update.specs.declared.verdict.Verdict.{Verdict}
use Rattle.bgp_update.specs.declared.verdict.Verdict.TheVariants as verdict
use Rattle.bgp_update.specs.Parts.{Parts, parts_of}
use Rattle.bgp_update.specs.Marks.{Mark, malformed, marks_of}
use Rattle.bgp_update.specs.Taken.{update_of}
use Rattle.bgp_update.specs.Notes.{is_reachable, missing_of, is_missing, notes_of, routes_of}

-- ---- the first reset

abbrev pub reset_by : Judged → Option Notification
reset_by (judged.Reset n) = Some n
reset_by _ = None

abbrev pub first_reset : List Mark → Option Notification
first_reset [] = None
first_reset (m ∷ later) = option_or (reset_by m.judged) (first_reset later)

-- a reset of code 3, subcode 10 (Invalid Network Field), without data
abbrev pub bad_network : Notification
bad_network = record { code = UPDATE_MESSAGE; subcode = INVALID_NETWORK_FIELD; info = record { items = [] } }

-- for octets that aren't only IPv4 prefixes
abbrev pub reset_of_run : List ℕ → Option Notification
reset_of_run b = if length (run_of 4 b).1 == 0 then None else Some bad_network

-- attributes in their order, with the one that is cut off last, then Withdrawn Routes, then NLRI
abbrev pub reset_of : Parts → List Mark → Option Notification
reset_of p marks = option_or (first_reset marks) (option_or (reset_of_run p.withdrawn) (reset_of_run p.nlri))

-- ---- treated as a withdrawal, or accepted

abbrev pub withdraws : Judged → Bool
withdraws (judged.Withdraw w) = true
withdraws _ = false

-- an attribute calls for it, or a mandatory one is missing
abbrev pub is_withdrawn : Parts → List Mark → Bool
is_withdrawn p marks = list_any (λ m. withdraws m.judged) marks || is_missing (missing_of p marks)

abbrev pub unless_reset : Option Notification → Verdict → Verdict
unless_reset (Some n) v = verdict.Reset n
unless_reset None v = v

-- where nothing is announced, there is nothing to withdraw (RFC 7606, section 5.2): the subcode is this project's own
abbrev pub without_reset : Parts → List Mark → Verdict
without_reset p marks =
    if is_withdrawn p marks
    then (if is_reachable p marks then verdict.Withdraw (routes_of p marks) (notes_of p marks) else verdict.Reset malformed)
    else verdict.Take (update_of p marks) (notes_of p marks)

abbrev pub verdict_on : Parts → List Mark → Verdict
verdict_on p marks = unless_reset (reset_of p marks) (without_reset p marks)

abbrev pub of_parts : Context → Option Parts → Verdict
of_parts ctx None = verdict.Reset malformed
of_parts ctx (Some p) = verdict_on p (marks_of ctx p)

-- the verdict on a body in a context
abbrev pub verdict_of : Context → List ℕ → Verdict
verdict_of ctx body = of_parts ctx (parts_of body)

-- a verdict with a value, whose allocation may fail: any but a reset
abbrev pub has_value : Verdict → Bool
has_value (verdict.Reset n) = false
has_value _ = true
