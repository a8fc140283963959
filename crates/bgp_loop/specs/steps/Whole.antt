-- A step of the proof: the content of octets. Only private functions cite it.
use Rattle.std.specs.Prelude.{◌≡◌, ℕ, ◌+◌, List, length, None, Some, Ok, Err}
use Rattle.bgp_frame.specs.Step.{Step}
use Rattle.bgp_frame.specs.declared.step.Step.TheVariants as step
use Rattle.bgp_frame.specs.Prelude.{IsLength}
use Rattle.bgp_loop.specs.Trace.{whole_of}

abbrev pub ShowsWhole : List ℕ → Step → Type 0
ShowsWhole octets step.More = whole_of octets ≡ None
ShowsWhole octets (step.Frame frame) =
    (whole_of octets ≡ Some (Ok (record { kind = frame.kind; body = frame.body.now })))
    × (frame.len ≡ length octets) × IsLength frame.kind (19 + length frame.body.now)
ShowsWhole octets (step.Fault fault) = whole_of octets ≡ Some (Err fault)
