-- The counts of a run, and the status of the process.
use Rattle.std.specs.Prelude.{ℕ, Bool, false, ◌&&◌, ◌==◌, Result, Ok, Err, if◌then◌else◌}
use Rattle.bgp_engine.specs.Below.{End}
use Rattle.bgp_engine.specs.declared.tally.Tally.{Tally}
use Rattle.bgp_engine.specs.declared.fault.ToolFault.{ToolFault}

-- nothing is counted
abbrev pub no_tally : Tally
no_tally = record { messages = 0; took = 0; withdrawn = 0; resets = 0; end = End.Wait 0 }

-- no message is incomplete
abbrev pub has_ended : End → Bool
has_ended End.Reset = false
has_ended End.Head = false
has_ended (End.Wait n) = n == 0

-- each message was accepted, and none is incomplete
abbrev pub is_clean : Tally → Bool
is_clean tally = (tally.withdrawn == 0 && tally.resets == 0) && has_ended tally.end

abbrev pub status_of : Result Tally ToolFault → ℕ
status_of (Ok tally) = if is_clean tally then 0 else 1
status_of (Err (ToolFault.BadHex n)) = 1
status_of (Err (ToolFault.Narrow n)) = 1
status_of (Err (ToolFault.Clean n why)) = 1
status_of (Err (ToolFault.NoContext why)) = 1
status_of (Err (ToolFault.Script n)) = 1
status_of (Err ToolFault.Memory) = 3
status_of (Err ToolFault.Read) = 4
status_of (Err ToolFault.Write) = 4
status_of (Err ToolFault.Net) = 4
