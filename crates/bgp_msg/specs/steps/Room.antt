-- Room for a header, before a body that is written: what private functions cite.
use Rattle.std.specs.Prelude.{ℕ, Bool, true, false, List, [], replicate, Result, Ok, Err}
use Rattle.bgp_update.specs.declared.write.WriteFault.{WriteFault}
use Rattle.bgp_update.specs.declared.write.WriteFault.TheVariants.{Memory}

-- the octets of the room, where they could be allocated
abbrev pub room_of : Bool → List ℕ
room_of true = replicate 19 255
room_of false = []

-- why a message isn't written where its header or its body isn't
abbrev pub refusal_of : Result (Unit {0}) WriteFault → WriteFault
refusal_of (Ok x) = Memory
refusal_of (Err fault) = fault
