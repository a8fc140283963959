-- The reports of an engine on a stream whose first message it handles by a separate rule.
use Rattle.std.specs.Prelude.{◌≡◌, ℕ, List, drop, length, Option, None, Some, Result, Ok, Err}
use Rattle.bgp_engine.specs.Below.{Agreed, Message, octets_of}
use Rattle.bgp_engine.specs.declared.class.Class.TheVariants as class
use Rattle.bgp_engine.specs.declared.fault.NoContext.{NoContext}
use Rattle.bgp_engine.specs.File.{first_message}
use Rattle.bgp_engine.specs.Opens.{unagreed, unagreed_end}
use Rattle.bgp_engine.specs.Report.{Report, behind}
use Rattle.bgp_engine.specs.Rules.{IsReport, RulesIn, counted}
use Rattle.bgp_engine.specs.Tally.{no_tally}

-- The rules for a stream, and what is written of its first message where a separate rule handles it
pub record Start (K Outcome : Type 0) : Type 0 where
  pub rules : RulesIn K Outcome
  pub first : Option (List ℕ)

-- how the stream is read, by its first message, where that is whole and its header has no fault; there may be no context to read it in
abbrev pub Starts : Type 0 → Type 0 → Type 0
Starts K Outcome = Option Message → Result (Start K Outcome) NoContext

module _ {K Outcome : Type 0} where
  -- by what is agreed on, where something is
  abbrev pub start_by : (Agreed → Start K Outcome) → Result Agreed NoContext → Result (Start K Outcome) NoContext
  start_by start (Ok terms) = Ok (start terms)
  start_by start (Err why) = Err why

  -- the first message, of this length, was accepted by its own rule, with this written; what follows is read by the rules
  pub record IsBehindFirst (rules : RulesIn K Outcome) (text : List ℕ) (len : ℕ) (stream : List ℕ) (r : Report) : Type 0 where
    pub report : Report
    pub rest : IsReport rules len (counted no_tally len class.Took) (drop len stream) report
    pub told : r ≡ behind text report

  -- where no first message is whole, or its header has a fault
  abbrev pub ReportedWithout : Result (Start K Outcome) NoContext → List ℕ → Report → Type 0
  ReportedWithout (Err why) stream r = r ≡ unagreed why (unagreed_end stream)
  ReportedWithout (Ok s) stream r = IsReport s.rules 0 no_tally stream r

  abbrev pub ReportedAs : RulesIn K Outcome → Option (List ℕ) → ℕ → List ℕ → Report → Type 0
  ReportedAs rules None len stream r = IsReport rules 0 no_tally stream r
  ReportedAs rules (Some text) len stream r = IsBehindFirst rules text len stream r

  -- where the first message is whole and has this length
  abbrev pub ReportedWith : Result (Start K Outcome) NoContext → ℕ → List ℕ → Report → Type 0
  ReportedWith (Err why) len stream r = r ≡ unagreed why (unagreed_end stream)
  ReportedWith (Ok s) len stream r = ReportedAs s.rules s.first len stream r

  abbrev pub ReportedAt : Starts K Outcome → Option Message → List ℕ → Report → Type 0
  ReportedAt starts None stream r = ReportedWithout (starts None) stream r
  ReportedAt starts (Some m) stream r = ReportedWith (starts (Some m)) (length (octets_of m)) stream r

  -- the report of a stream that is read so
  abbrev pub ReportedFrom : Starts K Outcome → List ℕ → Report → Type 0
  ReportedFrom starts stream r = ReportedAt starts (first_message stream) stream r
