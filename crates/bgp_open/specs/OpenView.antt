-- The value of a borrowed OPEN.
use Rattle.std.specs.Prelude.{◌≡◌, Result, Ok, Err}
use Rattle.bgp_open.specs.declared.fault.OpenFault.{OpenFault}
use Rattle.bgp_open.specs.declared.message.Open.{Open}
use Rattle.bgp_open.specs.declared.open_view.OpenView.{OpenView}
use Rattle.bgp_open.specs.OpenFault.{open_of}

abbrev pub open_value : OpenView → Open
open_value v = open_of v.body.now

-- the result is the reading, without an allocation
abbrev pub IsViewedAs : Result OpenView OpenFault → Result Open OpenFault → Type 0
IsViewedAs (Ok v) reading = reading ≡ Ok (open_value v)
IsViewedAs (Err fault) reading = reading ≡ Err fault
