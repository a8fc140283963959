-- The OPEN that octets begin with. An OPEN is judged alike in every context.
use Rattle.std.specs.Prelude.{ℕ, Bool, nat_lt, List, length, drop, take, Option, None, Some, option_map, Result, Ok, Err, if◌then◌else◌}
use Rattle.bgp_engine.specs.Below.{result_ok, Kind}
use Rattle.bgp_engine.specs.Below.{Message, wanted, head_of, Open, reading_of}
use Rattle.bgp_open.specs.declared.fault.OpenFault.{OpenFault}

-- the first message isn't whole
abbrev pub is_part : List ℕ → Bool
is_part octets = nat_lt (length octets) (wanted octets)

-- the first message, where it is whole and its header has no fault
abbrev pub first_message : List ℕ → Option Message
first_message octets =
    if is_part octets then None else
    option_map (λ head. record { kind = head.kind; body = drop 19 (take head.len octets) }) (result_ok (head_of octets))

abbrev pub open_by : Result Open OpenFault → Option Open
open_by (Ok o) = Some o
open_by (Err fault) = None

-- the OPEN with this body, where the kind is OPEN and it is accepted
abbrev pub open_in : Kind → List ℕ → Option Open
open_in Kind.Open body = open_by (reading_of body)
open_in Kind.Update body = None
open_in Kind.Notification body = None
open_in Kind.Keepalive body = None

abbrev pub open_at : Option Message → Option Open
open_at None = None
open_at (Some m) = open_in m.kind m.body

-- the first message, where it is an OPEN that is accepted
abbrev pub first_open : List ℕ → Option Open
first_open octets = open_at (first_message octets)
