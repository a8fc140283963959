-- The one written form of an UPDATE that is given in any form.
use Rattle.std.specs.Prelude.{◌≡◌, ◌<◌, ◌≤◌, ◌⊎◌, not, ◌&&◌, false, ℕ, List, [], ◌∷◌, length, Option, Some, None, option_map, if◌then◌else◌}
use Rattle.bgp_open.specs.declared.context.Context.{Context}
use Rattle.bgp_update.specs.declared.note.Note.{Note}
use Rattle.bgp_update.specs.declared.update.Update.{Update}
use Rattle.bgp_update.specs.declared.verdict.Verdict.{Verdict}
use Rattle.bgp_update.specs.Prelude.{narrowed_update, verdict_of, with_as4}
use Rattle.bgp_update.specs.declared.verdict.Verdict.TheVariants as verdict
use Rattle.bgp_msg.specs.declared.message.Message.TheVariants as message
use Rattle.bgp_msg.specs.Prelude.{canonical, is_valid, is_too_long}
use Rattle.ristulva_c.specs.declared.encode.Coded.{Coded}
use Rattle.ristulva_c.specs.declared.encode.Coded.TheVariants as coded
use Rattle.ristulva_c.specs.declared.status.TheConstants.{MEMORY, RANGE, REFUSED, UNWRITABLE}
use Rattle.ristulva_c.specs.Text.{Writing, IsLeft, IsWritten}

abbrev pub without_notes : Update → List Note → Option Update
without_notes u [] = Some u
without_notes u (n ∷ ns) = None

-- the UPDATE that is accepted whole: without a note
abbrev pub taken_of : Verdict → Option Update
taken_of (verdict.Take u notes) = without_notes u notes
taken_of (verdict.Withdraw routes notes) = None
taken_of (verdict.Reset n) = None

-- the message of an UPDATE, where it can be written and isn't too long
abbrev pub written_of : Context → Update → Option (List ℕ)
written_of ctx u =
    if is_valid ctx (message.Update u) && not (is_too_long ctx (message.Update u))
    then Some (canonical ctx (message.Update u))
    else None

-- the message of an UPDATE that is accepted, which is never too long
abbrev pub encoded_of : Context → Update → Option (List ℕ)
encoded_of ctx u = Some (canonical ctx (message.Update u))

-- the message of a valid UPDATE, where it isn't too long
abbrev pub short_of : Context → Update → Option (List ℕ)
short_of ctx u = if is_too_long ctx (message.Update u) then None else Some (canonical ctx (message.Update u))

-- the same as sent to a speaker with 2-octet AS numbers (RFC 6793)
abbrev pub narrowed_of : Context → Update → Option (List ℕ)
narrowed_of ctx u = short_of (with_as4 false ctx) (narrowed_update u)

-- the code's value for it
abbrev pub IsCoded : Coded → Option (Option (List ℕ)) → Type 0
IsCoded coded.Refused found = found ≡ None
IsCoded coded.Memory found = (form : Option (List ℕ)) × (found ≡ Some form)
IsCoded coded.Unwritable found = found ≡ Some None
IsCoded (coded.Octets octets) found = found ≡ Some (Some octets.items)

-- of an UPDATE that is accepted: it can't be written, or its written form
abbrev pub WritesForm : Option (List ℕ) → Writing → Type 0
WritesForm None w = IsLeft UNWRITABLE w
WritesForm (Some octets) w = IsWritten octets w

-- by the result of a body: it isn't accepted whole; or it is, and only then can an allocation fail
abbrev pub Writes : Option (Option (List ℕ)) → Writing → Type 0
Writes None w = IsLeft REFUSED w
Writes (Some form) w = WritesForm form w ⊎ IsLeft MEMORY w

-- a body is too long to be one, or has this result
abbrev pub Comes : List ℕ → Option (Option (List ℕ)) → Writing → Type 0
Comes body found w = ((4077 < length body) × IsLeft RANGE w) ⊎ ((length body ≤ 4077) × Writes found w)

abbrev pub IsEncoded : Context → List ℕ → Writing → Type 0
IsEncoded ctx body w = Comes body (option_map (encoded_of ctx) (taken_of (verdict_of ctx body))) w

abbrev pub IsNarrowed : Context → List ℕ → Writing → Type 0
IsNarrowed ctx body w = Comes body (option_map (narrowed_of ctx) (taken_of (verdict_of ctx body))) w
