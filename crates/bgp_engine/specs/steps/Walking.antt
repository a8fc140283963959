-- Steps of a walk over the messages of a stream, which is a receiver of octets.
use Rattle.std.specs.Prelude.{◌≡◌, ◌⊎◌, ℕ, ◌+◌, ◌-◌, ◌≤◌, ◌^◌, Bool, true, List, [], ◌++◌, length, is_none, is_some, Option, None, Some, Result, Ok, Err}
use Rattle.std.specs.Prelude.{if◌then◌else◌}
use Rattle.bgp_engine.specs.Below.{AreOctets, AreTypes, End, HeadFault, MessageIn, Types, WaitsIn, Hearer, Done, PullsNext, by_feed, left_to_do, given, IsToFeedIn, wide_types}
use Rattle.bgp_frame.specs.declared.kind.WideKind.{WideKind}
use Rattle.bgp_frame.specs.Prelude.{outcome_of_in}
use Rattle.bgp_frame.specs.Hearing as hearing
use Rattle.bgp_engine.specs.declared.tally.Tally.{Tally}
use Rattle.bgp_engine.specs.declared.walk.Walk.{Walk}
use Rattle.bgp_engine.specs.Report.{Report, behind, IsOver}
use Rattle.bgp_engine.specs.Refreshed.{Refreshed}
use Rattle.bgp_engine.specs.Rules.{Rules, RulesIn, counted, passed, report_of}
use Rattle.bgp_engine.specs.Tally.{no_tally}
use Rattle.bgp_engine.specs.Wide.{wide_rules}

-- the types of message by which octets are held, the held octets, the offset where they begin, the counts of what precedes them, and how the stream
-- ended, if it has
pub record Walking (K Outcome : Type 0) : Type 0 where
  pub types : Types K
  pub rules : RulesIn K Outcome
  pub held : List ℕ
  pub place : ℕ
  pub tally : Tally
  pub ended : Option End

abbrev pub all_counts : Tally → ℕ
all_counts t = t.messages + t.took + t.withdrawn + t.resets

abbrev pub reset_if : Bool → Option End
reset_if resets = if resets then Some End.Reset else None

-- the end of a stream without more octets, of which this number of octets is held
abbrev pub end_by : Option End → ℕ → End
end_by None held = End.Wait held
end_by (Some e) held = e

module _ {K Outcome : Type 0} where
  abbrev pub walking : Types K → RulesIn K Outcome → List ℕ → ℕ → Tally → Option End → Walking K Outcome
  walking types rules held place tally ended = record { types = types; rules = rules; held = held; place = place; tally = tally; ended = ended }

  -- its length, and its outcome
  abbrev pub outcome : Types K → RulesIn K Outcome → Result (MessageIn K) HeadFault → ℕ × Outcome
  outcome types rules (Ok m) = outcome_of_in types rules.judge m
  outcome types rules (Err f) = (0, rules.judge.of_fault f)

  abbrev pub ended_by : RulesIn K Outcome → Result (MessageIn K) HeadFault → Option End
  ended_by rules (Ok m) = reset_if (rules.judge.resets (rules.judge.of_message m))
  ended_by rules (Err f) = Some End.Head

  -- what is written of it, and the walk after it
  abbrev pub comes : Walking K Outcome → Result (MessageIn K) HeadFault → List ℕ × Walking K Outcome
  comes w what =
      let o = outcome w.types w.rules what in
      (w.rules.line w.place o.0 w.held o.1, walking w.types w.rules [] (w.place + passed w.rules o) (counted w.tally o.0 (w.rules.class o.1)) (ended_by w.rules what))

  -- a walk accepts octets until its stream has ended
  abbrev pub walker : Types K → Hearer K (Walking K Outcome) (List ℕ × Walking K Outcome) ℕ
  walker types = record {
    types = types;
    held = λ w. w.held;
    holding = λ w held. record w { held = held };
    listens = λ w. is_none w.ended;
    comes = comes;
    actions = λ said. said.0;
    behind = λ w said. record said.1 { held = [] };
  }

  -- the report where the stream has no more octets
  abbrev pub closing : Walking K Outcome → Report
  closing w = report_of w.rules w.place w.tally w.held [] (end_by w.ended (length w.held))

  abbrev pub reported : Done (Walking K Outcome) ℕ → Report
  reported d = behind d.actions (closing d.session)

  -- the report of what is held and of the octets after it
  abbrev pub reports_of : Walking K Outcome → List ℕ → Report → Type 0
  reports_of w later r = r ≡ reported (left_to_do (walker w.types) w later)

  -- nothing was consumed
  abbrev pub IsFresh : Walking K Outcome → Type 0
  IsFresh w = w ≡ walking w.types w.rules [] 0 no_tally None

  -- a header says each type and length, and the page reads the types by which octets are held
  pub record IsTyped (w : Walking K Outcome) : Type 0 where
    pub are : AreTypes w.types
    pub same : w.types ≡ w.rules.types

  -- no count overflows
  pub record IsCounting (w : Walking K Outcome) : Type 0 where
    pub typed : IsTyped w
    pub octets : AreOctets w.held
    pub place : w.place + length w.held ≤ 2 ^ 60
    pub counts : all_counts w.tally ≤ w.place

  -- nothing is missing for a last report, and a walk can continue counting where its stream continues
  pub record IsReady (w : Walking K Outcome) : Type 0 where
    pub typed : IsTyped w
    pub waits : WaitsIn w.types w.held
    pub counting : w.ended ≡ None → IsCounting w
    pub over : is_some w.ended ≡ true → IsOver (end_by w.ended (length w.held))

  -- how many more octets can be counted
  abbrev pub room_of : Walking K Outcome → ℕ
  room_of w = 2 ^ 60 - (w.place + length w.held)

  -- there is nothing to judge, and the octets are to be fed; or this number of them was pulled, and the line was collected
  abbrev pub IsJudged : (old new : Walking K Outcome) (told_old told_new octets : List ℕ) → Option ℕ → Type 0
  IsJudged old new told_old told_new octets None = IsToFeedIn old.types old.held octets × (new ≡ old) × (told_new ≡ told_old)
  IsJudged old new told_old told_new octets (Some n) = (line : List ℕ) × PullsNext (walker old.types) old octets n line new × (told_new ≡ told_old ++ line)

  -- n octets were fed, what is held then was judged, and the line was collected
  pub record Hears (old new : Walking K Outcome) (told_old told_new octets : List ℕ) (n : ℕ) : Type 0 where
    pub found : Option (List ℕ)
    pub call : by_feed (walker old.types) old octets n found new
    pub told : told_new ≡ told_old ++ given found

  -- octets were received up to the rest, and what was written on them was collected
  pub record Moves (old new : Walking K Outcome) (told_old told_new octets rest : List ℕ) : Type 0 where
    pub lines : List ℕ
    pub told : told_new ≡ told_old ++ lines
    pub types : new.types ≡ old.types
    pub left : left_to_do (walker old.types) old octets ≡ hearing.behind lines (left_to_do (walker old.types) new rest)
    pub count : new.place + length new.held + length rest ≤ old.place + length old.held + length octets
    pub ready : IsReady new

-- a walk whose page is written by these rules
abbrev pub walk_of : {P Outcome : Type 0} → (P → Rules Outcome) → Walk P → Walking WideKind (Outcome ⊎ Refreshed)
walk_of rules w = walking (wide_types w.framer.grammar) (wide_rules w.refreshes (rules w.page)) w.framer.octets w.place w.tally w.ended
