-- What an engine writes of a stream of octets, and what it answers.
use Rattle.std.specs.Prelude.{ℕ, List, ◌++◌, Result}
use Rattle.bgp_engine.specs.Below.{End}
use Rattle.bgp_engine.specs.declared.tally.Tally.{Tally}
use Rattle.bgp_engine.specs.declared.fault.Stop.{Stop}
use Rattle.bgp_engine.specs.declared.fault.ToolFault.{ToolFault}

-- what is written of the stream's messages, what is written last, how the stream ends, and the answer
pub record Report : Type 0 where
  pub lines : List ℕ
  pub last : List ℕ
  pub end_of : End
  pub answer : Result Tally ToolFault

-- the same after lines that were written before
abbrev pub behind : List ℕ → Report → Report
behind lines r = record { lines = lines ++ r.lines; last = r.last; end_of = r.end_of; answer = r.answer }

-- no reason is given why a cleaned stream ends before its source does, but that a message is incomplete: the caller adds it
abbrev pub IsWordless : Stop → Type 0
IsWordless Stop.Unsaid = Unit {0}
IsWordless Stop.Incomplete = Unit {0}
IsWordless (Stop.At why) = ⊥

-- the stream has ended, whatever follows
abbrev pub IsOver : End → Type 0
IsOver End.Reset = Unit {0}
IsOver End.Head = Unit {0}
IsOver (End.Wait n) = ⊥

abbrev pub IsWaiting : End → Type 0
IsWaiting End.Reset = ⊥
IsWaiting End.Head = ⊥
IsWaiting (End.Wait n) = Unit {0}
