-- Runs: octets that are a row of prefixes, and what is wrong with others (RFC 4271, section 4.3).
use Rattle.std.specs.Prelude.{◌≡◌, ℕ, ◌*◌, ◌<◌, List, [], ◌∷◌, length, Option, None, Some, Result, Ok, Err, nat_lt, if◌then◌else◌}
use Rattle.bgp_wire.specs.Prelude.{pieces}
use Rattle.bgp_prefix.specs.declared.fault.RunFault.{RunFault}
use Rattle.bgp_prefix.specs.declared.fault.RunFault.TheVariants.{TooLong, PastEnd, Memory}
use Rattle.bgp_prefix.specs.Prefix.{PrefixValue, one_prefix}

-- the prefixes that octets begin with, and the rest, which begins with none
abbrev pub run_of : ℕ → List ℕ → List PrefixValue × List ℕ
run_of width b = pieces (one_prefix width) b

-- why no prefix begins with this length: it is longer than an address, or the octets end too early
abbrev pub fault_at : ℕ → ℕ → RunFault
fault_at width l = if nat_lt (8 * width) l then TooLong else PastEnd

-- the fault of the rest, unless it is empty
abbrev pub run_fault : ℕ → List ℕ → Option RunFault
run_fault width [] = None
run_fault width (l ∷ rest) = Some (fault_at width l)

-- The possible results of a call that reads octets as a run: all the prefixes where nothing is left, else the fault of what
-- is left. Memory fails only where there is a prefix, since nothing else allocates.
abbrev pub IsReading : ℕ → List ℕ → Result (List PrefixValue) RunFault → Type 0
IsReading width b (Ok prefixes) = run_of width b ≡ (prefixes, [])
IsReading width b (Err TooLong) = run_fault width (run_of width b).1 ≡ Some TooLong
IsReading width b (Err PastEnd) = run_fault width (run_of width b).1 ≡ Some PastEnd
IsReading width b (Err Memory) = 0 < length (run_of width b).0
