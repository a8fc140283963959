-- What remains for a session to do with a piece, between two pulls. Only steps of proofs cite it.
use Rattle.std.specs.Prelude.{ℕ, List}
use Rattle.bgp_frame.specs.Hearing as hearing
use Rattle.bgp_machine.specs.Cutting.{Done}
use Rattle.bgp_machine.specs.Session.{Machine, hearer}

abbrev pub IsReady : Machine → Type 0
IsReady x = hearing.IsReady hearer x

abbrev pub left_to_do : Machine → List ℕ → Done
left_to_do x rest = hearing.left_to_do hearer x rest

abbrev pub weight : Machine → List ℕ → ℕ
weight x rest = hearing.weight hearer x rest
