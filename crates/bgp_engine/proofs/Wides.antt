-- What is collected of a message where ROUTE-REFRESH may be one.
use Rattle.bgp_engine.proofs.Prelude.{◌≡◌, ℕ, ◌+◌, List, ◌++◌, length, Ok, Err, refl, sym, ap, ◌∙◌, HeadFault, Rules, Types, Writes, WritesFault, is_last, octets_of_in, IsTyped, Option, End, Tally, Walking, walking, ◌⊎◌, []}
use Rattle.std.specs.Prelude.{IfOk, Result, is_err}
use Rattle.bgp_frame.specs.declared.kind.Kind.{Kind}
use Rattle.bgp_frame.specs.declared.kind.WideKind.{WideKind}
use Rattle.bgp_frame.specs.declared.kind.WideKind.TheVariants as wide
use Rattle.bgp_frame.specs.Kind.{plain}
use Rattle.bgp_frame.specs.Prelude.{wide_types}
use Rattle.bgp_frame.specs.steps.AreTypes.{wide-are}
use Rattle.bgp_refresh.specs.Prelude.{refresh_header}
use Rattle.bgp_terms.specs.declared.refreshes.Refreshes.{Refreshes}
use Rattle.bgp_engine.specs.declared.class.Class.{Class}
use Rattle.bgp_engine.specs.Refreshed.{Refreshed, grammar_of, refreshed}
use Rattle.bgp_engine.specs.Wide.{refresh_class, wide_rules}

pub both_ok : {T E : Type 0} (r : Result T E) (P Q R : T → Type 0) → ((x : T) → P x → Q x → R x) → IfOk r P → IfOk r Q → IfOk r R
both_ok (Ok x) P Q R f p q = f x p q
both_ok (Err e) P Q R f p q = tt

last_refresh : (r : Refreshed) → is_err r ≡ is_last (refresh_class r)
last_refresh (Ok r) = refl
last_refresh (Err n) = refl

module _ {Outcome : Type 0} (accepted : Refreshes) (rules : Rules Outcome) (t0 t1 : List ℕ) (place : ℕ) where
  pub wide_fault : (header : List ℕ) (f : HeadFault) → WritesFault rules t0 t1 place header f → WritesFault (wide_rules accepted rules) t0 t1 place header f
  wide_fault header f w = record { told = w.told; counts = w.counts }

  module _ (len : ℕ) (body : List ℕ) (class : Class) where
    pub wide_message : (kind : Kind) → rules.types ≡ plain → Writes rules t0 t1 place len (record { kind = kind; body = body }) class → Writes (wide_rules accepted rules) t0 t1 place len (record { kind = wide.Base kind; body = body }) class
    wide_message kind plainly w = record {
      told = w.told ∙ ap (λ (ty : Types Kind). t0 ++ rules.line place len (octets_of_in ty (record { kind = kind; body = body })) (rules.judge.of_message (record { kind = kind; body = body }))) plainly;
      counts = w.counts;
      ends = w.ends;
    }

    pub wide_refresh : t1 ≡ t0 ++ rules.refresh place len (refresh_header (19 + length body) ++ body) (refreshed accepted body) → class ≡ refresh_class (refreshed accepted body)
        → Writes (wide_rules accepted rules) t0 t1 place len (record { kind = wide.Refresh; body = body }) class
    wide_refresh told counts = record { told = told; counts = counts; ends = last_refresh (refreshed accepted body) ∙ ap is_last (sym counts) }

-- a walk that holds nothing, by the grammar of what it accepts
abbrev pub under : {Outcome : Type 0} → Refreshes → Rules Outcome → ℕ → Tally → Option End → Walking WideKind (Outcome ⊎ Refreshed)
under accepted rules place tally ended = walking (wide_types (grammar_of accepted)) (wide_rules accepted rules) [] place tally ended

pub typed_under : {Outcome : Type 0} (accepted : Refreshes) (rules : Rules Outcome) (held : List ℕ) (place : ℕ) (tally : Tally) (ended : Option End) → IsTyped (walking (wide_types (grammar_of accepted)) (wide_rules accepted rules) held place tally ended)
typed_under accepted rules held place tally ended = record { are = wide-are (grammar_of accepted); same = refl }
