-- How an engine reports the messages of a stream.
use Rattle.std.specs.Prelude.{◌≡◌, ℕ, ◌+◌, ◌==◌, List, [], ◌∷◌, ◌++◌, take, drop, Result, if◌then◌else◌}
use Rattle.bgp_engine.specs.Below.{End, GivesIn, Kind, StreamRulesIn, Types}
use Rattle.bgp_engine.specs.declared.class.Class.{Class}
use Rattle.bgp_engine.specs.declared.tally.Tally.{Tally}
use Rattle.bgp_engine.specs.declared.fault.ToolFault.{ToolFault}
use Rattle.bgp_engine.specs.Refreshed.{Refreshed}
use Rattle.bgp_engine.specs.Report.{Report}

-- The types of message that are read; how messages and headers are judged; what is written of an outcome, by its offset, its length, and its
-- octets: those of a message, or the 19 of a header with a fault, whose length is 0; what is written of a ROUTE-REFRESH, where it is a message,
-- by the same; what an outcome counts as; what is written last, by the counts and the end, and of an incomplete message; and the answer, by the
-- counts, the end and the offset after all messages that let the stream continue.
pub record RulesIn (K Outcome : Type 0) : Type 0 where
  pub types : Types K
  pub judge : StreamRulesIn K Outcome
  pub line : ℕ → ℕ → List ℕ → Outcome → List ℕ
  pub refresh : ℕ → ℕ → List ℕ → Refreshed → List ℕ
  pub class : Outcome → Class
  pub last : Tally → List ℕ
  pub rest : List ℕ → List ℕ
  pub answer : Tally → ℕ → Result Tally ToolFault

-- by the types of RFC 4271
abbrev pub Rules : Type 0 → Type 0
Rules Outcome = RulesIn Kind Outcome

-- a whole message is one message; a header's fault, of length 0, is none
abbrev pub messages_in : ℕ → ℕ
messages_in len = if len == 0 then 0 else 1

-- the octets of a message of this length, or of a faulty header, at the beginning of a stream
abbrev pub octets_at : ℕ → List ℕ → List ℕ
octets_at len stream = take (if len == 0 then 19 else len) stream

abbrev pub counted : Tally → ℕ → Class → Tally
counted tally len Class.Took = record tally { messages = tally.messages + messages_in len; took = tally.took + 1 }
counted tally len Class.Withdrawn = record tally { messages = tally.messages + messages_in len; withdrawn = tally.withdrawn + 1 }
counted tally len Class.Reset = record tally { messages = tally.messages + messages_in len; resets = tally.resets + 1 }

module _ {K Outcome : Type 0} (rules : RulesIn K Outcome) where
  -- the octets of an outcome that lets the stream continue
  abbrev pub passed : ℕ × Outcome → ℕ
  passed o = if rules.judge.resets o.1 then 0 else o.0

  abbrev pub total : List (ℕ × Outcome) → ℕ
  total [] = 0
  total (o ∷ outcomes) = passed o + total outcomes

  -- what is written of each, each at the offset after those before it
  abbrev pub lines_from : ℕ → List ℕ → List (ℕ × Outcome) → List ℕ
  lines_from place stream [] = []
  lines_from place stream (o ∷ outcomes) =
      rules.line place o.0 (octets_at o.0 stream) o.1 ++ lines_from (place + passed o) (drop (passed o) stream) outcomes

  abbrev pub tally_from : Tally → List (ℕ × Outcome) → Tally
  tally_from tally [] = tally
  tally_from tally (o ∷ outcomes) = tally_from (counted tally o.0 (rules.class o.1)) outcomes

  -- what is written of an incomplete message
  abbrev pub rest_of : List ℕ → End → List ℕ
  rest_of waiting End.Reset = []
  rest_of waiting End.Head = []
  rest_of waiting (End.Wait n) = rules.rest waiting

  -- the report of a stream after what was counted before, from its offset on
  abbrev pub report_of : ℕ → Tally → List ℕ → List (ℕ × Outcome) → End → Report
  report_of place tally stream outcomes e = record {
    lines = lines_from place stream outcomes;
    last = rules.last (record (tally_from tally outcomes) { end = e }) ++ rest_of (drop (total outcomes) stream) e;
    end_of = e;
    answer = rules.answer (record (tally_from tally outcomes) { end = e }) (place + total outcomes);
  }

  -- r is the report of what the stream gives
  pub record IsReport (place : ℕ) (tally : Tally) (stream : List ℕ) (r : Report) : Type 0 where
    pub outcomes : List (ℕ × Outcome)
    pub end_of : End
    pub gives : GivesIn rules.types rules.judge stream outcomes end_of
    pub told : r ≡ report_of place tally stream outcomes end_of
