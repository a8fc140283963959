-- One block of text, from its characters to what is written for it.
use Rattle.std.specs.Prelude.{◌≡◌, ℕ, ◌+◌, ◌≤◌, Bool, true, false, List, [], ◌++◌, length, Option, None, Some, Result, Ok, Err}
use Rattle.bgp_engine.specs.Below.{Appends}
use Rattle.bgp_engine.specs.declared.tally.Tally.{Tally}
use Rattle.bgp_engine.specs.declared.fault.ToolFault.{ToolFault}
use Rattle.bgp_engine.specs.declared.hex_text.HexText.{HexText}
use Rattle.bgp_engine.specs.declared.running.Met.{Met}
use Rattle.bgp_engine.specs.steps.HexSteps.{pending, place}
use Rattle.bgp_engine.specs.Output.{IsFront, AppendsFront}
use Rattle.bgp_engine.specs.Report.{Report, IsWordless}
use Rattle.bgp_engine.specs.steps.Engine.{Takes}
use Rattle.bgp_engine.specs.Run.{Reports, stream_of, bad_of}

-- whatever text follows, from old on its stream is the octets, and then its stream from new on
pub record Spells (hex : Bool) (old : HexText) (block octets : List ℕ) (new : HexText) : Type 0 where
  pub stream : (later : List ℕ) → stream_of hex (pending old ++ (block ++ later)) ≡ octets ++ stream_of hex (pending new ++ later)
  pub bad : (later : List ℕ) → bad_of hex (place old) (pending old ++ (block ++ later)) ≡ bad_of hex (place new) (pending new ++ later)
  pub raw : hex ≡ false → new.pending ≡ None
  pub seen : new.seen ≤ old.seen + length block

-- whatever text follows, its stream is the octets and no others, and it is bad at offset n
pub record SpellsNoMore (hex : Bool) (old : HexText) (block octets : List ℕ) (n : ℕ) : Type 0 where
  pub stream : (later : List ℕ) → stream_of hex (pending old ++ (block ++ later)) ≡ octets
  pub bad : (later : List ℕ) → bad_of hex (place old) (pending old ++ (block ++ later)) ≡ Some n

module _ (hex : Bool) (reader_old reader_new : HexText) (old new : Reports) (going : Type 0) (told_old told_new block : List ℕ) where
  -- the block was read and processed, and the stream continues
  pub record MeetsBlock : Type 0 where
    pub octets : List ℕ
    pub spells : Spells hex reader_old block octets reader_new
    pub takes : Takes old new going told_old told_new octets false

  -- the block was read up to a bad character, and processed
  pub record MeetsBad (n : ℕ) : Type 0 where
    pub octets : List ℕ
    pub spells : SpellsNoMore hex reader_old block octets n
    pub takes : Takes old new going told_old told_new octets false

  -- what was read of the block is all that is reported of the stream
  pub record MeetsOver : Type 0 where
    pub octets : List ℕ
    pub spells : (later : List ℕ) → IsFront octets (stream_of hex (pending reader_old ++ (block ++ later)))
    pub takes : Takes old new going told_old told_new octets true

  abbrev pub Meets : Met → Type 0
  Meets Met.Block = MeetsBlock
  Meets (Met.Bad n) = MeetsBad n
  Meets Met.Over = MeetsOver

-- all that was collected, and the last text, was written
pub record WritesAll (reports : Reports) (told : List ℕ) (old new : Option (List ℕ)) (answer : Result Tally ToolFault) : Type 0 where
  pub report : Report
  pub reported : reports [] report
  pub wrote : Appends old new (told ++ (report.lines ++ report.last))
  pub answers : report.answer ≡ answer

-- nothing was written
pub record WritesNone (reports : Reports) (old new : Option (List ℕ)) : Type 0 where
  pub report : Report
  pub reported : reports [] report
  pub wrote : Appends old new []

-- a prefix of it was written
pub record WritesFront (reports : Reports) (told : List ℕ) (old new : Option (List ℕ)) : Type 0 where
  pub report : Report
  pub reported : reports [] report
  pub wrote : AppendsFront old new (told ++ (report.lines ++ report.last))

abbrev pub Finished : Reports → List ℕ → Option (List ℕ) → Option (List ℕ) → Result Tally ToolFault → Type 0
Finished reports told old new (Ok tally) = WritesAll reports told old new (Ok tally)
Finished reports told old new (Err ToolFault.Memory) = WritesNone reports old new
Finished reports told old new (Err ToolFault.Write) = WritesFront reports told old new
Finished reports told old new (Err ToolFault.Read) = ⊥
Finished reports told old new (Err (ToolFault.BadHex n)) = ⊥
Finished reports told old new (Err (ToolFault.Script n)) = ⊥
Finished reports told old new (Err ToolFault.Net) = ⊥
Finished reports told old new (Err (ToolFault.Narrow n)) = WritesAll reports told old new (Err (ToolFault.Narrow n))
Finished reports told old new (Err (ToolFault.Clean n why)) = IsWordless why × WritesAll reports told old new (Err (ToolFault.Clean n why))
Finished reports told old new (Err (ToolFault.NoContext why)) = WritesAll reports told old new (Err (ToolFault.NoContext why))
