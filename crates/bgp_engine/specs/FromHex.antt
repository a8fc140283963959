-- What `from-hex` writes.
use Rattle.std.specs.Prelude.{◌≡◌, ℕ, List, [], Ok}
use Rattle.bgp_frame.specs.declared.end.End.TheVariants as end
use Rattle.bgp_engine.specs.Report.{Report}
use Rattle.bgp_engine.specs.Run.{Reports}
use Rattle.bgp_engine.specs.Tally.{no_tally}

-- the octets unchanged: nothing is counted, and nothing is incomplete
abbrev pub copied : List ℕ → Report
copied octets = record { lines = octets; last = []; end_of = end.Wait 0; answer = Ok no_tally }

abbrev pub Copied : Reports
Copied octets r = r ≡ copied octets
