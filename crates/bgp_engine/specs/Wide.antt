-- The rules for a stream in which ROUTE-REFRESH may be a message (RFC 2918; RFC 7313).
use mathlib.Core.Logic.{inl, inr}
use Rattle.std.specs.Prelude.{◌⊎◌, ℕ, Bool, List, Ok, Err, is_err}
use Rattle.bgp_frame.specs.declared.kind.WideKind.{WideKind}
use Rattle.bgp_frame.specs.declared.kind.WideKind.TheVariants as wide
use Rattle.bgp_engine.specs.Below.{Refreshes, StreamRules, wide_types}
use Rattle.bgp_engine.specs.declared.class.Class.{Class}
use Rattle.bgp_engine.specs.Refreshed.{Refreshed, grammar_of, refreshed}
use Rattle.bgp_engine.specs.Rules.{Rules, RulesIn}

-- a ROUTE-REFRESH is accepted, or ends the stream
abbrev pub refresh_class : Refreshed → Class
refresh_class (Ok r) = Class.Took
refresh_class (Err n) = Class.Reset

module _ {Outcome : Type 0} where
  -- a message of RFC 4271 is judged by these rules
  abbrev pub of_kind : Refreshes → StreamRules Outcome → WideKind → List ℕ → Outcome ⊎ Refreshed
  of_kind accepted judge (wide.Base kind) body = inl (judge.of_message (record { kind = kind; body = body }))
  of_kind accepted judge wide.Refresh body = inr (refreshed accepted body)

  abbrev pub resets_by : StreamRules Outcome → Outcome ⊎ Refreshed → Bool
  resets_by judge (inl o) = judge.resets o
  resets_by judge (inr r) = is_err r

  abbrev pub line_by : Rules Outcome → ℕ → ℕ → List ℕ → Outcome ⊎ Refreshed → List ℕ
  line_by rules place len octets (inl o) = rules.line place len octets o
  line_by rules place len octets (inr r) = rules.refresh place len octets r

  abbrev pub class_by : (Outcome → Class) → Outcome ⊎ Refreshed → Class
  class_by class (inl o) = class o
  class_by class (inr r) = refresh_class r

  -- these rules for messages of RFC 4271, and ROUTE-REFRESH as the reader accepts it
  abbrev pub wide_rules : Refreshes → Rules Outcome → RulesIn WideKind (Outcome ⊎ Refreshed)
  wide_rules accepted rules = record {
    types = wide_types (grammar_of accepted);
    judge = record {
      of_message = λ m. of_kind accepted rules.judge m.kind m.body;
      of_fault = λ f. inl (rules.judge.of_fault f);
      resets = resets_by rules.judge;
    };
    line = line_by rules;
    refresh = rules.refresh;
    class = class_by rules.class;
    last = rules.last;
    rest = rules.rest;
    answer = rules.answer;
  }
