-- Proofs that grammars extend the types of RFC 4271: a law of a trait takes its proof from `specs/`.
use Rattle.std.specs.Prelude.{◌≡◌, ◌||◌, ℕ, ◌≤◌, ◌<◌, List, length, not}
use Rattle.bgp_wire.proofs.Std.{Bool, true, false, cond, eqb, ltb, Option, Some, None, Result, Err, option_map, refl, sym, subst, arith}
use Rattle.std.proofs.lemmas.Bool.{eqb-true, ltb-false}
use Rattle.bgp_numbers.specs.declared.message.TheConstants.{ROUTE_REFRESH}
use Rattle.bgp_frame.specs.declared.fault.HeadFault.{HeadFault}
use Rattle.bgp_frame.specs.declared.fault.HeadFault.TheVariants as fault
use Rattle.bgp_frame.specs.declared.kind.Kind.{Kind}
use Rattle.bgp_frame.specs.declared.kind.Kind.TheVariants.{Open, Update, Notification, Keepalive}
use Rattle.bgp_frame.specs.declared.kind.WideKind.{WideKind}
use Rattle.bgp_frame.specs.declared.kind.WideKind.TheVariants as wide
use Rattle.bgp_frame.specs.Prelude.{AreTypes, HeaderIn, Types, WaitsIn, has_marker, head_for_in, head_of_in, is_length_in, kind_of, length_field, plain, type_field, wanted_by, wanted_in, wide_kind, wide_types}
use Rattle.bgp_frame.specs.steps.AreTypes.{plain-are, wide-are}
use Rattle.bgp_engine.specs.Below.{Refreshes}
use Rattle.bgp_engine.specs.Refreshed.{grammar_of, is_offered}

-- a header says each type and length, and what is incomplete by the types of RFC 4271 is incomplete
pub record Extends {K : Type 0} (types : Types K) : Type 0 where
  pub are : AreTypes types
  pub waits : (b : List ℕ) → WaitsIn plain b → WaitsIn types b

pub plain_extends : Extends plain
plain_extends = record { are = plain-are; waits = λ b waits. waits }

-- ---- with ROUTE-REFRESH

same_length : (refresh : Bool) (kind : Kind) (n : ℕ) → is_length_in (wide_types (record { refresh = refresh; long = false })) (wide.Base kind) n ≡ is_length_in plain kind n
same_length refresh Open n = refl
same_length refresh Update n = refl
same_length refresh Notification n = refl
same_length refresh Keepalive n = refl

module _ (refresh : Bool) (held : ℕ) where
  abbrev types : Types WideKind
  types = wide_types (record { refresh = refresh; long = false })

  by_length : (kind : Kind) (code len : ℕ) (t : Bool) → is_length_in plain kind len ≡ t → held < wanted_by (head_for_in plain (Some kind) code len) → 19 ≤ held → held < wanted_by (head_for_in types (Some (wide.Base kind)) code len)
  by_length kind code len true is waits long = rw (same_length refresh kind len, is) (rw is at waits)
  by_length kind code len false is waits long = absurd (let short = rw is at waits in omega (arith, short, long))

  by_kind : (o : Option Kind) (code len : ℕ) → held < wanted_by (head_for_in plain o code len) → 19 ≤ held → held < wanted_by (head_for_in types (option_map wide.Base o) code len)
  by_kind None code len waits long = absurd (omega (arith, waits, long))
  by_kind (Some kind) code len waits long = by_length kind code len (is_length_in plain kind len) refl waits long

  not_base : (n : ℕ) → n ≡ ROUTE_REFRESH → kind_of n ≡ None
  not_base n is = subst (λ (k : ℕ). kind_of k ≡ None) (sym is) refl

  by_code : (code len : ℕ) (t : Bool) → eqb code ROUTE_REFRESH ≡ t → held < wanted_by (head_for_in plain (kind_of code) code len) → 19 ≤ held → held < wanted_by (head_for_in types (wide_kind refresh code) code len)
  by_code code len true is waits long = absurd (let none = not_base code (eqb-true code ROUTE_REFRESH is) in let short = rw none at waits in omega (arith, short, long))
  by_code code len false is waits long = rw is (by_kind (kind_of code) code len waits long)

  abbrev head_by : {K : Type 0} → Bool → Bool → ℕ → Result (HeaderIn K) HeadFault → Result (HeaderIn K) HeadFault
  head_by marked out len head = cond (not marked) (Err fault.Marker) (cond out (Err (fault.Length len)) head)

  by_head : (marked out : Bool) (code len : ℕ) → held < wanted_by (head_by marked out len (head_for_in plain (kind_of code) code len)) → 19 ≤ held
      → held < wanted_by (head_by marked out len (head_for_in types (wide_kind refresh code) code len))
  by_head false out code len waits long = absurd (omega (arith, waits, long))
  by_head true true code len waits long = absurd (omega (arith, waits, long))
  by_head true false code len waits long = by_code code len (eqb code ROUTE_REFRESH) refl waits long

by_size : (refresh : Bool) (b : List ℕ) (t : Bool) → ltb (length b) 19 ≡ t
    → length b < cond t 19 (wanted_by (head_of_in plain b)) → length b < cond t 19 (wanted_by (head_of_in (wide_types (record { refresh = refresh; long = false })) b))
unfolding head_of_in
by_size refresh b true is waits = waits
by_size refresh b false is waits =
    by_head refresh (length b) (has_marker b) (ltb (length_field b) 19 || ltb 4096 (length_field b)) (type_field b) (length_field b) waits (ltb-false (length b) 19 is)

waits_wide : (refresh : Bool) (b : List ℕ) → WaitsIn plain b → WaitsIn (wide_types (record { refresh = refresh; long = false })) b
unfolding wanted_in
waits_wide refresh b waits = by_size refresh b (ltb (length b) 19) refl waits

pub wide_extends : (accepted : Refreshes) → Extends (wide_types (grammar_of accepted))
wide_extends accepted = record { are = wide-are (grammar_of accepted); waits = waits_wide (is_offered accepted) }
