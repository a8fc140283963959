-- What `explain` prints for a message: what `show` prints, and its fields.
use Rattle.std.specs.Prelude.{ℕ, nat_lt, List, [], ◌∷◌, ◌++◌, length, take, codes, Option, if◌then◌else◌}
use Rattle.bgp_text.specs.Below.{flat_map, decimal, Context, Notification, Outcome, Fault, Refresh, fields_of, refresh_fields}
use Rattle.bgp_text.specs.FieldLines.{noted_lines, faulty_line}
use Rattle.bgp_text.specs.Info.{notification_text}
use Rattle.bgp_text.specs.Outcome.{outcome_lines, reset_name}
use Rattle.bgp_text.specs.RefreshLine.{refresh_line}

-- a NOTIFICATION with the first 64 octets of its data
abbrev pub shortened : Notification → Notification
shortened n = record { code = n.code; subcode = n.subcode; info = record { items = take 64 n.info.items } }

-- the number of octets, where some are left out
abbrev pub count_text : List ℕ → List ℕ
count_text b = if nat_lt 64 (length b) then codes "... of " ++ (decimal (length b) ++ codes " octets") else []

-- the line that `show` prints for a reset, with at most 64 octets of the data
abbrev pub short_reset_line : ℕ → ℕ → Notification → List ℕ
short_reset_line place len n =
    decimal place ++ (codes " " ++ (decimal len ++ (codes " " ++ (reset_name n.code ++ (codes " reset " ++ (notification_text (shortened n)
    ++ (count_text n.info.items ++ 10 ∷ [])))))))

-- the lines that `show` prints, except for data of a reset that is left out
unfoldable pub heading_lines : ℕ → ℕ → Outcome → List ℕ
heading_lines place len (Outcome.Took m notes) = outcome_lines place len (Outcome.Took m notes)
heading_lines place len (Outcome.Withdraw routes notes) = outcome_lines place len (Outcome.Withdraw routes notes)
heading_lines place len (Outcome.Reset n) = short_reset_line place len n

-- the fields of a message in a context: notes are printed where their attributes begin, and a NOTIFICATION where the octets at fault begin
unfoldable pub explained_fields : Context → List ℕ → Option Fault → Outcome → List ℕ
explained_fields ctx message fault (Outcome.Took m notes) = noted_lines message 0 notes (fields_of ctx message)
explained_fields ctx message fault (Outcome.Withdraw routes notes) = noted_lines message 0 notes (fields_of ctx message)
explained_fields ctx message fault (Outcome.Reset n) = flat_map (faulty_line message fault n) (fields_of ctx message)

-- what `show` prints for a message at an offset in the stream and of this length, 0 for a header's fault, and the fields of its octets
abbrev pub explained_lines : Context → ℕ → ℕ → List ℕ → Option Fault → Outcome → List ℕ
explained_lines ctx place len octets fault o = heading_lines place len o ++ explained_fields ctx octets fault o

-- what `show` prints for a ROUTE-REFRESH that is accepted, and the fields of its octets
abbrev pub explained_refresh : Context → ℕ → ℕ → List ℕ → Refresh → List ℕ
explained_refresh ctx place len octets r = refresh_line place len r ++ noted_lines octets 0 [] (refresh_fields ctx octets)
