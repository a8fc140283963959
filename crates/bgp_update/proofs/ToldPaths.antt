-- Segments that are written with narrowed numbers.
use Rattle.bgp_wire.proofs.Std.{◌≡◌, ℕ, true, false, Option, Some, None, Result, OnOk, OnErr, on_err_weaker, AllByRecursion, subst, append_assoc, List, [], ◌∷◌, ◌++◌, length, map, refl, sym, ap, ap₂, ◌∙◌, flat_map, list_any, length-map, flat_map-map, or_parts}
use Rattle.std.proofs.lemmas.List.{append-nil}
use Rattle.std.proofs.lemmas.Result.{on_ok_weaker}
use Rattle.bgp_wire.specs.Prelude.{Extends}
use Rattle.bgp_open.specs.declared.context.Context.{Context}
use Rattle.bgp_prefix.specs.declared.as_number.AsNumber.{AsNumber}
use Rattle.bgp_attr.specs.declared.attr.Attr.{Attr}
use Rattle.bgp_attr.specs.declared.path.Segment.{Segment}
use Rattle.bgp_attr.specs.Prelude.{number_octets, segment_code, segment_octets, is_bad_segment, canonical, is_writable}
use Rattle.bgp_attr.proofs.Writes.{segment_written}
use Rattle.bgp_update.specs.Prelude.{narrow_number, narrow_segment, present}

pub narrow_written : (s : Segment) (code count : ℕ) (old head new : List ℕ) → code ≡ segment_code s.kind → count ≡ length s.numbers → head ≡ old ++ code ∷ count ∷ []
    → new ≡ head ++ flat_map (λ (n : AsNumber). number_octets false (narrow_number n).0) s.numbers → new ≡ old ++ segment_octets false (narrow_segment s)
narrow_written s code count old head new code_is count_is e f =
    segment_written false (narrow_segment s) (map narrow_number s.numbers) old head new refl
    (e ∙ ap₂ (λ (c n : ℕ). old ++ c ∷ n ∷ []) code_is (count_is ∙ sym (length-map s.numbers narrow_number)))
    (f ∙ ap (λ (b : List ℕ). head ++ b) (sym (flat_map-map (λ (n : AsNumber). number_octets false n.0) narrow_number s.numbers)))

-- the first of segments none of which is bad, and those after it
pub none_bad : (left : List Segment) (s : Segment) (later : List Segment) → left ≡ s ∷ later → list_any is_bad_segment (map narrow_segment left) ≡ false
    → (is_bad_segment (narrow_segment s) ≡ false) × (list_any is_bad_segment (map narrow_segment later) ≡ false)
none_bad left s later are none =
    or_parts (is_bad_segment (narrow_segment s)) (list_any is_bad_segment (map narrow_segment later))
    (sym (ap (λ (xs : List Segment). list_any is_bad_segment (map narrow_segment xs)) are) ∙ none)

-- an optional attribute, written where there is one
module _ {A : Type 0} (make : A → Attr) (all : Option A) (ctx : Context) (old new : List ℕ) where
  pub nothing_there : None ≡ all → old ≡ old ++ flat_map (canonical ctx) (present make all)
  nothing_there none = sym (append-nil old) ∙ ap (λ (o : Option A). old ++ flat_map (canonical ctx) (present make o)) none

  pub one_there : {E : Type 0} (r : Result (Unit {0}) E) (x : A) → Some x ≡ all → OnOk r (new ≡ old ++ canonical ctx (make x)) → OnOk r (new ≡ old ++ flat_map (canonical ctx) (present make all))
  one_there r x is put =
      on_ok_weaker r
      (λ e. e ∙ ap (λ (b : List ℕ). old ++ b) (sym (append-nil (canonical ctx (make x)))) ∙ ap (λ (o : Option A). old ++ flat_map (canonical ctx) (present make o)) is)
      put

  pub one_writable : (x : A) → Some x ≡ all → AllByRecursion (λ a. is_writable ctx a ≡ true) (present make all) → is_writable ctx (make x) ≡ true
  one_writable x is each = (subst (λ (o : Option A). AllByRecursion (λ (a : Attr). is_writable ctx a ≡ true) (present make o)) (sym is) each).0

pub unchanged : {E : Type 0} (r : Result (Unit {0}) E) (old new : List ℕ) → OnErr r (new ≡ old) → OnErr r (Extends old new)
unchanged r old new same = on_err_weaker r (λ e. ([], e ∙ sym (append-nil old))) same

-- what two calls append remains where a third appends nothing
pub extends_by : (old head more new front back : List ℕ) → head ≡ old ++ front → more ≡ head ++ back → new ≡ more → Extends old new
extends_by old head more new front back e f g = (front ++ back, g ∙ f ∙ ap (λ (b : List ℕ). b ++ back) e ∙ append_assoc old front back)

pub written_same : {A E : Type 0} (octets : A → List ℕ) (r : Result (Unit {0}) E) (xs ys : List A) (old new : List ℕ) → xs ≡ ys → OnOk r (new ≡ old ++ flat_map octets xs) → OnOk r (new ≡ old ++ flat_map octets ys)
written_same {A = A} octets r xs ys old new same put = on_ok_weaker r (λ e. e ∙ ap (λ (zs : List A). old ++ flat_map octets zs) same) put
