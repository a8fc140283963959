-- The types of message that the guard reads.
use Rattle.std.specs.Prelude.{true, false}
use Rattle.bgp_frame.specs.Types.{AreTypes}
use Rattle.bgp_frame.specs.steps.AreTypes.{wide-are}
use Rattle.bgp_guard.specs.Guard.{types}

pub types-are : AreTypes types
types-are = wide-are (record { refresh = true; long = false })
