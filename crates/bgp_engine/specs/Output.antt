-- What a writer holds after a write that failed.
use Rattle.std.specs.Prelude.{◌≡◌, ℕ, List, ◌++◌, Option}
use Rattle.bgp_engine.specs.Below.{Appends}
use Rattle.bgp_engine.specs.declared.fault.ToolFault.{ToolFault}
use Rattle.bgp_engine.specs.declared.fault.ToolFault.TheVariants.{Write}

-- a is a prefix of b
abbrev pub IsFront : List ℕ → List ℕ → Type 0
IsFront a b = (rest : List ℕ) × (b ≡ a ++ rest)

-- a prefix of the text was written
pub record AppendsFront (old new : Option (List ℕ)) (text : List ℕ) : Type 0 where
  pub front : List ℕ
  pub is_front : IsFront front text
  pub appends : Appends old new front

-- the fault is of the writer, and a prefix of the text was written
pub record FailsWithin (old new : Option (List ℕ)) (text : List ℕ) (fault : ToolFault) : Type 0 where
  pub is_write : fault ≡ Write
  pub wrote : AppendsFront old new text
