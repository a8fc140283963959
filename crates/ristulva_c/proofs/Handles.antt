-- A handle is its pointer, and what it owns. Assumes `Logic`.
--     E                         a box in the heap
--     handle_in, handle_out     a handle by value is [what it owns]
--     either_owned              the two cases of what it owns
--     owned_keyless             what it owns is the same for every thread
use mathlib.Core.Path.{◌≡◌, refl, subst}
use mathlib.Core.List.{List, [], ◌∷◌, ◌++◌}
use Prim.Native.Nat.{ℕ}
use seplogic.Ra.Ura.{Ura}
use base.Fml.{Fml, ftrue, feq, fsep, fex}
use base.Fraction.{full_share}
use base.Shift.{Keyless}
use base.Logic.{ent, guard, via, snd∗, fst∗, never, guard_i}
use mir.Raw.{raw as bare}
use mir.Syntax.{impl, tnil, dnil}
use mir.Val.{Val, vstruct, of_list}
use types.Logic.{Logic, sem}
use types.Kit.{Item, Goal, Seq, Step, step, ‵, given, ◌$◌, drop, use1, learn, fsplit, fjoin, fpick, fpack, feq_i, feq_l}
use contract.Monad.{fact_use}
use denote.RattleType.{RattleType, Valss}
use denote.Memory.{lone}
use denote.Param.Laws.{Laws}
use denote.Param.Send.{IsSend}
use denote.RawPtr.{Ptr, RawPtr, block_ptr, null_ptr, ptr_val, lies_at, Testable, in_a_block}
use denote.Signature.{Slot, plain}
use denote.Steps.{nothing}
use Rattle.std.specs.Prelude.{Option, None, Some}
use Rattle.std.specs.declared.alloc.Global.{Global}
use Rattle.std.specs.contracts.alloc.Global as heap
use Rattle.std.proofs.alloc.Global.TheLaws as heap_laws
use Rattle.std.specs.contracts.impls.GlobalAllocator.TheImpl.{ghosts, dict}
use Rattle.std.proofs.GlobalToken.{dealloc_token-Testable}
use Rattle.std.specs.Box.Ownership.{box_owns}
use Rattle.std_alloc.proofs.BoxSteps.Form.{Bx}
use Rattle.std_alloc.proofs.SendSync.{lies}
use Rattle.libc.specs.Heap.{chunk, chunk-Keyless}
use Rattle.ristulva_c.specs.Handle.{owned}
use Rattle.ristulva_c.specs.contracts.handle.parts.BoxParts as parts

abbrev pub E : (R : RattleType) → Laws R → Bx
E R laws = record { row = R; laws = laws; al = record { row = heap.the_row; laws = heap_laws.the_row_laws; g = ghosts; d = dict; drops = impl [] tnil dnil } }

abbrev pub Apart : RattleType → RattleType
Apart R = parts.the_row R heap.the_row ghosts

abbrev pub FromHeap : Slot 0
FromHeap = plain (λ _. heap.the_row)

abbrev pub word_of : Ptr → Val
word_of p = vstruct (of_list (ptr_val p ∷ []))

-- a handle by value
abbrev pub held : (R : RattleType) → Ptr → Option R.Denot → List Val → Fml
held R p x vs =
    fsep (fex (Valss (RawPtr ∷ [])) (λ vss. fsep (feq (List Val) vs (vstruct (of_list (vss.0 ++ [])) ∷ [])) (fsep (feq (List Val) vss.0 (ptr_val p ∷ [])) ftrue))) (owned R p x)

module _ {M : Type 1} {𝓤 : Ura M} {𝓛 : Logic 𝓤} {K : Type 0} {Γ : List (Item 𝓤)} {G : Goal 𝓤 𝓛.H} (R : RattleType) where
  pub handle_out : K → (p : Ptr) (x : Option R.Denot) (vs : List Val) → (vs ≡ word_of p ∷ [] → Seq K 𝓛 (‵ (owned R p x) ∷ Γ) G) → Seq K 𝓛 (‵ (held R p x vs) ∷ Γ) G
  handle_out t p x vs k =
      fsplit t $ fpick t (λ vss. fsplit t $ feq_l t (λ ev. fsplit t $ feq_l t (λ ep. drop t $
      k (subst (λ (ps : List Val). vs ≡ vstruct (of_list (ps ++ [])) ∷ []) ep ev))))

  pub handle_in : K → (p : Ptr) (x : Option R.Denot) → Step K 𝓛 (‵ (held R p x (word_of p ∷ [])) ∷ Γ) G (‵ (owned R p x) ∷ Γ) G
  handle_in t p x = step (λ s.
      nothing t $ feq_i t (List Val) (ptr_val p ∷ []) (ptr_val p ∷ []) refl $ fjoin t $ feq_i t (List Val) (word_of p ∷ []) (word_of p ∷ []) refl $ fjoin t $
      fpack t (Valss (RawPtr ∷ [])) (λ vss. fsep (feq (List Val) (word_of p ∷ []) (vstruct (of_list (vss.0 ++ [])) ∷ [])) (fsep (feq (List Val) vss.0 (ptr_val p ∷ [])) ftrue)) (ptr_val p ∷ [], tt) $ fjoin t $ s)

module _ {M : Type 1} {𝓤 : Ura M} (𝓛 : Logic 𝓤) (a : Global) (R : RattleType) where
  tested : (p : Ptr) (x : R.Denot) → ent 𝓤 (sem 𝓛 (box_owns chunk R p x)) (guard 𝓤 (Testable p) (sem 𝓛 (box_owns chunk R p x)))
  tested p x = fact_use 𝓤 (Testable p)
      (via 𝓤 _ (snd∗ 𝓤 (sem 𝓛 (lies_at R full_share p x)) (sem 𝓛 (chunk (bare (lone R.mir)) p))) (dealloc_token-Testable 𝓛 a (bare (lone R.mir)) p))
      (guard_i 𝓤 (Testable p) (sem 𝓛 (box_owns chunk R p x)))

module _ {M : Type 1} {𝓤 : Ura M} {𝓛 : Logic 𝓤} {K : Type 0} {Γ : List (Item 𝓤)} {G : Goal 𝓤 𝓛.H} (a : Global) (R : RattleType) where
  pub either_owned : K → (p : Ptr) (x : Option R.Denot) → (p ≡ null_ptr → x ≡ None → Seq K 𝓛 Γ G)
      → ((b o : ℕ) (y : R.Denot) → p ≡ block_ptr b o → x ≡ Some y → Testable (block_ptr b o) → Seq K 𝓛 (‵ (box_owns chunk R (block_ptr b o) y) ∷ Γ) G)
      → Seq K 𝓛 (‵ (owned R p x) ∷ Γ) G
  either_owned t p None none one = feq_l t (λ e. none e refl)
  either_owned t p (Some y) none one =
      in_a_block t p (λ q. box_owns chunk R q y) (fst∗ 𝓤 (never 𝓤) (sem 𝓛 (chunk (bare (lone R.mir)) null_ptr))) (λ b o e.
      use1 𝓛 (given (Testable (block_ptr b o)) (‵ (box_owns chunk R (block_ptr b o) y))) (tested 𝓛 a R (block_ptr b o) y) $ learn t (λ it. one b o y e refl it))

module _ (R : RattleType) (send : IsSend R) where
  pub owned_keyless : (p : Ptr) (x : Option R.Denot) → Keyless (owned R p x)
  owned_keyless p None = tt
  owned_keyless p (Some x) = (lies R send p x, chunk-Keyless (bare (lone R.mir)) p)
