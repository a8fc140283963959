-- Steps of two pages, which only private functions cite.
use Rattle.std.specs.Prelude.{◌≡◌, ℕ, List, [], ◌++◌, Option, unwrap_or}
use Rattle.bgp_engine.specs.Below.{Context, Outcome, is_reset, Span}
use Rattle.bgp_engine.specs.declared.class.Class.{Class}
use Rattle.bgp_engine.specs.Explain.{Form, heard_text}
use Rattle.bgp_engine.specs.Heard.{Heard}
use Rattle.bgp_engine.specs.Identified.{Showing, shown_body}
use Rattle.bgp_paths.specs.declared.families.PathFamilies.{PathFamilies}
use Rattle.bgp_engine.specs.Narrow.{narrowed_class}
use Rattle.bgp_engine.specs.OnlyFaults.{Chosen}
use Rattle.bgp_engine.specs.steps.Pages.{is_last}
use Rattle.bgp_engine.specs.Show.{class_of}

-- the text of an outcome was added, and it counts as this
pub record WritesOutcome (shown : ℕ → ℕ → Option Span → Outcome → List ℕ) (old new : List ℕ) (place len : ℕ) (span : Option Span) (o : Outcome) (class : Class) : Type 0 where
  pub told : new ≡ old ++ shown place len span o
  pub counts : class ≡ class_of o
  pub ends : is_reset o ≡ is_last class

-- the text of the outcome of an UPDATE whose routes have path identifiers was added, and it counts as this
pub record WritesIdentified (shown : Showing) (f : PathFamilies) (ctx : Context) (old new : List ℕ) (place len : ℕ) (body : List ℕ) (o : Outcome) (class : Class) : Type 0 where
  pub told : new ≡ old ++ shown_body shown f ctx place len body o
  pub counts : class ≡ class_of o
  pub ends : is_reset o ≡ is_last class

-- what is written of a message, if it can be, was appended
pub record WritesNarrow (old new : List ℕ) (o : Option (List ℕ)) (class : Class) : Type 0 where
  pub appended : new ≡ old ++ unwrap_or o []
  pub counts : class ≡ narrowed_class o

-- the text of a message was added, and it counts as this
pub record WritesHeard (form : Form) (printed : Chosen) (ctx : Context) (old new : List ℕ) (place len : ℕ) (octets : List ℕ) (h : Heard) (class : Class) : Type 0 where
  pub told : new ≡ old ++ heard_text form printed ctx place len octets h
  pub counts : class ≡ class_of h.outcome
  pub ends : is_reset h.outcome ≡ is_last class
