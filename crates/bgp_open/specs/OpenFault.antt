-- What is wrong with the body of an OPEN, and the NOTIFICATION (RFC 4271, sections 6.2 and 4.5). The order of the tests is this project's own.
use Rattle.std.specs.Prelude.{◌≡◌, ◌==◌, ◌≢◌, ℕ, not, nat_lt, List, [], ◌∷◌, length, Option, None, Some, Result, Ok, Err, IsOk, if◌then◌else◌}
use Rattle.bgp_wire.specs.Prelude.{when, pieces}
use Rattle.bgp_numbers.specs.declared.TheConstants.{VERSION}
use Rattle.bgp_numbers.specs.declared.parameter.TheConstants.{CAPABILITIES}
use Rattle.bgp_numbers.specs.declared.error.TheConstants.{OPEN_MESSAGE, UNSPECIFIC, UNSUPPORTED_VERSION, BAD_IDENTIFIER, UNSUPPORTED_PARAMETER, UNACCEPTABLE_HOLD_TIME}
use Rattle.bgp_frame.specs.declared.notification.Notification.{Notification}
use Rattle.bgp_open.specs.declared.message.Open.{Open}
use Rattle.bgp_open.specs.declared.fault.OpenFault.{OpenFault}
use Rattle.bgp_open.specs.declared.fault.OpenFault.TheVariants.{Version, Parameter, UnknownParameter, Hold, Identifier, Memory}
use Rattle.bgp_open.specs.Parameter.{one_parameter}
use Rattle.bgp_open.specs.Open.{version_of, as_field_of, hold_of, id_of, length_of, parameters_of, is_short_hold, is_zero_id, joined, IsOpen}

-- the faults of tests in their order: the first one is the body's
abbrev pub first_fault : List (Option OpenFault) → Option OpenFault
first_fault [] = None
first_fault (None ∷ later) = first_fault later
first_fault (Some fault ∷ later) = Some fault

-- what is left after the last parameter: nothing, or octets that begin no parameter. These are cut off, or of an unknown
-- type, or hold capabilities that are cut off or of a wrong length
abbrev pub rest_fault : List ℕ → Option OpenFault
rest_fault [] = None
rest_fault (kind ∷ []) = Some Parameter
rest_fault (kind ∷ n ∷ value) =
    if nat_lt (length value) n then Some Parameter else (
    if not (kind == CAPABILITIES) then Some UnknownParameter else
    Some Parameter)

-- the first fault of a body of at least ten octets
unfoldable pub open_fault : List ℕ → Option OpenFault
open_fault body = first_fault (
    when (not (version_of body == VERSION)) Version ∷
    when (not (length_of body == length (parameters_of body))) Parameter ∷
    rest_fault (pieces one_parameter (parameters_of body)).1 ∷
    when (is_short_hold (hold_of body)) Hold ∷
    when (is_zero_id (id_of body)) Identifier ∷ [])

-- the value of a body without fault
abbrev pub open_of : List ℕ → Open
open_of body = record {
  as_field = as_field_of body;
  hold = hold_of body;
  id = id_of body;
  caps = joined (pieces one_parameter (parameters_of body)).0;
}

-- the value, or the first fault
abbrev pub or_fault : Option OpenFault → Open → Result Open OpenFault
or_fault None o = Ok o
or_fault (Some fault) o = Err fault

abbrev pub reading_of : List ℕ → Result Open OpenFault
reading_of body = or_fault (open_fault body) (open_of body)

-- the result is the reading, or memory ran out where there is a value
abbrev pub FailsAs : OpenFault → Result Open OpenFault → Type 0
FailsAs Memory reading = IsOk reading
FailsAs fault reading = reading ≡ Err fault

abbrev pub IsReadAs : Result Open OpenFault → Result Open OpenFault → Type 0
IsReadAs (Ok o) reading = reading ≡ Ok o
IsReadAs (Err fault) reading = FailsAs fault reading

-- a body has one value, or a fault and no value
abbrev pub HasValueOrFault : List ℕ → Option OpenFault → Type 0
HasValueOrFault body None = IsOpen (open_of body) body × ((o : Open) → IsOpen o body → o ≡ open_of body)
HasValueOrFault body (Some fault) = (fault ≢ Memory) × ((o : Open) → IsOpen o body → ⊥)

-- a NOTIFICATION of code 2, OPEN Message Error
abbrev pub open_error : ℕ → List ℕ → Notification
open_error subcode info = record { code = OPEN_MESSAGE; subcode = subcode; info = record { items = info } }

-- the NOTIFICATION of a fault: the version supported here is the data for an unsupported one, and a failed allocation has no NOTIFICATION
abbrev pub open_notification : OpenFault → Option Notification
open_notification Version = Some (open_error UNSUPPORTED_VERSION (0 ∷ VERSION ∷ []))
open_notification Parameter = Some (open_error UNSPECIFIC [])
open_notification UnknownParameter = Some (open_error UNSUPPORTED_PARAMETER [])
open_notification Hold = Some (open_error UNACCEPTABLE_HOLD_TIME [])
open_notification Identifier = Some (open_error BAD_IDENTIFIER [])
open_notification Memory = None
