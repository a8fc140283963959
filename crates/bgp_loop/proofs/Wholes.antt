-- The content of octets: a message, a header with a fault, or neither.
use Rattle.bgp_wire.proofs.Std.{◌≡◌, ℕ, ◌≤◌, Bool, true, false, List, length, take, drop, None, Some, Ok, Err, if◌then◌else◌, ◌==◌, refl, sym, ap, subst, ◌∙◌, arith, length-take-le, take-append-drop}
use Rattle.std.proofs.lemmas.Bool.{eq-eqb, eqb-true}
use Rattle.std.proofs.lemmas.List.{take_all}
use Rattle.bgp_frame.specs.declared.fault.HeadFault.{HeadFault}
use Rattle.bgp_frame.specs.Prelude.{Message, IsFrame, wanted_by, wanted, Waits, head_of, content}
use Rattle.bgp_frame.proofs.FrameLemmas.{length-IsFrame, IsFrame-wanted, wanted_by_head, wanted-append}
use Rattle.bgp_frame.proofs.Contents.{enough, content_of-frame, content_of-fault}
use Rattle.bgp_loop.specs.Trace.{whole_of}
use Rattle.bgp_frame.specs.Kind.{plain}
use Rattle.bgp_frame.specs.steps.AreTypes.{plain-are}

whole_so : (b : List ℕ) → length b ≡ wanted b → whole_of b ≡ Some (content b)
whole_so b is = ap (λ (same : Bool). if same then Some (content b) else None) (eq-eqb (length b) (wanted b) is)

by_test : (b : List ℕ) (same : Bool) → (length b == wanted b) ≡ same → (length b ≡ wanted b → ⊥) → whole_of b ≡ None
by_test b false is not = ap (λ (same : Bool). if same then Some (content b) else None) is
by_test b true is not = absurd (not (eqb-true (length b) (wanted b) is))

whole_not : (b : List ℕ) → (length b ≡ wanted b → ⊥) → whole_of b ≡ None
whole_not b not = by_test b (length b == wanted b) refl not

-- incomplete octets
pub none_waits : (b : List ℕ) → Waits b → whole_of b ≡ None
none_waits b waits = whole_not b (λ is. omega (arith, waits, is))

-- the first n octets of them are a message
module _ (m : Message) (b : List ℕ) (len : ℕ) (within : len ≤ length b) (is : IsFrame m (take len b)) where
  all_frame : len ≡ length b → IsFrame m b
  all_frame same = subst (IsFrame m) (take_all len b (omega (arith, same))) is

  pub whole_frame : len ≡ length b → whole_of b ≡ Some (Ok m)
  whole_frame same =
      let wants = IsFrame-wanted plain plain-are m b (all_frame same) in
      whole_so b (sym wants) ∙ sym (enough plain plain-are b (omega arith)) ∙ content_of-frame plain plain-are m b (all_frame same)

  wants_so : wanted b ≡ len
  wants_so =
      let long = length-IsFrame plain plain-are m (take len b) is in
      ap wanted (sym (take-append-drop len b)) ∙ wanted-append plain plain-are (take len b) (drop len b) (omega arith) ∙ IsFrame-wanted plain plain-are m (take len b) is ∙ length-take-le len b within

  pub other_frame : (len ≡ length b → ⊥) → whole_of b ≡ None
  other_frame not = whole_not b (λ same. not (sym (same ∙ wants_so)))

-- their header has a fault
module _ (f : HeadFault) (b : List ℕ) (long : 19 ≤ length b) (is : head_of b ≡ Err f) where
  wants_head : wanted b ≡ 19
  wants_head = wanted_by_head plain plain-are b long ∙ ap wanted_by is

  pub whole_fault : length b ≡ 19 → whole_of b ≡ Some (Err f)
  whole_fault same =
      let wants = wants_head in
      whole_so b (same ∙ sym wants) ∙ sym (enough plain plain-are b (omega arith)) ∙ content_of-fault plain plain-are b f same is

  pub other_fault : (length b ≡ 19 → ⊥) → whole_of b ≡ None
  other_fault not = whole_not b (λ same. not (same ∙ wants_head))
