-- What the code keeps, as the definitions have it.
use Rattle.std.specs.Prelude.{◌≡◌, ℕ, ◌≤◌, true, List, length, option_map}
use Rattle.bgp_guard.specs.declared.line.Half as code
use Rattle.bgp_guard.specs.declared.line.Line.{Line}
use Rattle.bgp_guard.specs.declared.stage.Stage.{Stage}
use Rattle.bgp_guard.specs.Guard.{Half, runs, spoken_of}

abbrev pub half_with : List ℕ → Line → Half
half_with held l = record { stands = l.stands; held = held; peer = option_map spoken_of l.offers; ready = l.ready; way = l.way; quiet = l.quiet; owed = l.owed }

abbrev pub half_of : code.Half → Half
half_of h = half_with h.framer h.line

-- while messages are passed on there is room for a NOTIFICATION in the queue for a side
abbrev pub HasRoom : Stage → List ℕ → Type 0
HasRoom stage way = runs stage ≡ true → length way ≤ 65536
