-- The walks that all handles share: their functions are the same but for the names of types.
use Rattle.ristulva_c.proofs.Walks.{sem, bare, token, τ, R as Boxed, ◌≡◌, List, [], ◌∷◌, ◌++◌, refl, sym, ap, ◌∙◌, subst, lit<, Ura, Val, vcons, vnil, SProp, ent, emp, id⊢, ftrue, fsep, WpFn, Tables, Logic, Item, ‵, raw, ◌⊛◌, at_ret, ◌$◌, ◌∵◌, !, qed, by, move, keep, drop, use0, use1, split, fsplit, fjoin, suffices, live, whole, sub, agg, stop, fld, lit, bin, no_more, and_then, of_opd, first, branches, exec, returns, enter, alloc_all, pass_all, free_all, look_at, get, get_in, sets, sets_last, env, layout, RattleType, Ptr, block_ptr, null_ptr, tests_null, handle_tells, after, Good, Some-of, none_of, None, Some, and_tt, D, B, word, box_typed, box_in, box_out}
use base.Fraction.{full_share}
use denote.Memory.{part_at}
use denote.Param.Laws.{Laws}
use Rattle.libc.specs.Heap.{chunk}
use Rattle.std.specs.Box.Ownership.{box_owns}
use Rattle.std.specs.Prelude.{ℕ, Option, option_map}
use Rattle.std.specs.declared.alloc.Global.{Global}
use Rattle.core.specs.contracts.option.Option as option
use Rattle.ristulva_c.specs.Handle.{owned}
use Rattle.ristulva_c.proofs.Handles.{E, Apart, FromHeap, held, word_of, handle_in, handle_out, either_owned}
use mir.Syntax.{Fn, Sym, Ty, ty_struct, ty_ptr, tcons, tnil, ty_bool, local, value_local, place, field, copy, int, w8, w64, ptr_eq, op2, assign, rv_opd, aggregate, cond, seq, return}

-- a handle as the machine sees it: its type's name, and a pointer
abbrev pub handle_ty : Sym → Ty
handle_ty name = ty_struct name (tcons ty_ptr tnil)

-- the code of `of_parts`
abbrev pub of_fn : Sym → RattleType → Fn
of_fn name R = record {
  lifetimes = 0;
  outlives = [];
  ty_params = [];
  givens = 0;
  params = 1;
  locals = local (handle_ty name) value_local ∷ local (layout (Apart R)) value_local ∷ local ty_ptr value_local ∷ local ty_ptr value_local ∷ [];
  body = seq (assign (place 2 []) (rv_opd (copy (place 1 (field 0 ∷ []))))) (seq (assign (place 3 []) (rv_opd (copy (place 2 []))))
      (seq (assign (place 0 []) (aggregate (copy (place 3 []) ∷ []))) return));
}

-- the code of `into_parts`
abbrev pub Out : RattleType → RattleType
Out R = option.the_row (Apart R)

abbrev pub into_fn : Sym → RattleType → Fn
into_fn name R = record {
  lifetimes = 0;
  outlives = [];
  ty_params = [];
  givens = 0;
  params = 2;
  locals = local (layout (Out R)) value_local ∷ local (handle_ty name) value_local ∷ local (layout (FromHeap.row tt)) value_local ∷ local ty_ptr value_local ∷ local ty_bool value_local
      ∷ local (layout (Out R)) value_local ∷ local ty_ptr value_local ∷ local (layout (Apart R)) value_local ∷ [];
  body = seq (assign (place 3 []) (rv_opd (copy (place 1 (field 0 ∷ []))))) (seq (assign (place 4 []) (op2 ptr_eq (copy (place 3 [])) (int w64 0)))
      (seq (cond (copy (place 4 [])) (assign (place 5 []) (aggregate (int w8 0 ∷ [])))
      (seq (assign (place 6 []) (rv_opd (copy (place 3 [])))) (seq (assign (place 7 []) (aggregate (copy (place 6 []) ∷ copy (place 2 []) ∷ [])))
      (assign (place 5 []) (aggregate (int w8 1 ∷ copy (place 7 []) ∷ []))))))
      (seq (assign (place 0 []) (rv_opd (copy (place 5 [])))) return)));
}

module _ {M : Type 1} {𝓤 : Ura M} (𝓛 : Logic 𝓤) (𝓣 : Tables 𝓤 𝓛.H) (name : Sym) (R : RattleType) (laws : Laws R) where
  open 𝓛 use {H}

  -- what a box owns is what a handle of its pointer owns
  abbrev pub Owns : Type 1
  Owns = (v : D (E R laws)) (b o : ℕ) → ent 𝓤 (sem 𝓛 (fsep (part_at (Boxed (E R laws)) full_share v.value b o) (token (E R laws).al v.alloc (bare (τ (E R laws))) (block_ptr b o)))) (sem 𝓛 (owned R (block_ptr b o) (Some v.value)))

  -- the pointer moves into the handle
  pub moves_in : Owns → (v : D (E R laws)) (vs : List Val) (Post : Val → SProp 𝓤)
      → ((p : Ptr) (u : Val) → ent 𝓤 (types.Kit.⋆ 𝓛 (‵ (held R p (Some v.value) (u ∷ [])) ∷ [])) (Post u))
      → ent 𝓤 (types.Kit.⋆ 𝓛 ((‵ ftrue ⊛ ‵ (fsep ((B (E R laws)).own_val v vs) ftrue)) ∷ raw (emp 𝓤) ∷ [])) (WpFn 𝓤 H 𝓣.C 𝓣.Λ (of_fn name R) (vs ++ []) Post)
  moves_in owns v vs Post ends =
      qed 𝓛 ((‵ ftrue ⊛ ‵ (fsep ((B (E R laws)).own_val v vs) ftrue)) ∷ raw (emp 𝓤) ∷ []) ∵ split ! $ drop ! $ fsplit ! $
      box_out (E R laws) ! v vs (λ b o hv e ws fa.
      fjoin ! $ use1 𝓛 (‵ (owned R (block_ptr b o) (Some v.value))) (owns v b o) $ handle_in R ! (block_ptr b o) (Some v.value) $ keep ! (0 ∷ []) $
      let w = word (E R laws) hv b o in let u : Val = word_of (block_ptr b o) in
      let Γ : List (Item 𝓤) = ‵ (held R (block_ptr b o) (Some v.value) (u ∷ [])) ∷ [] in
      by ! (subst (λ (us : List Val). ent 𝓤 (types.Kit.⋆ 𝓛 Γ) (WpFn 𝓤 H 𝓣.C 𝓣.Λ (of_fn name R) (us ++ []) Post)) (sym ws)
      (qed 𝓛 Γ ∵ enter ! 𝓣.C 𝓣.Λ (of_fn name R) (w ∷ []) _ $ alloc_all ! (λ ls. pass_all ! refl (box_typed (E R laws) hv b o fa, tt) $
      sets ! (of_opd ! (get_in ! (fld ! refl (stop !)) (sub ! 0 refl (whole !)))) refl (tt, tt) $ sets ! (of_opd ! (get ! refl)) refl (tt, tt) $
      sets ! (agg ! (and_then ! (get ! refl) (no_more !))) refl (tt, (tt, tt)) $ returns ! (look_at ! 0 refl) $ free_all ! refl $
      by ! (ends (block_ptr b o) u)))))

  -- and out of it
  abbrev pub Gives : Type 1
  Gives = (v : D (E R laws)) (b o : ℕ) → ent 𝓤 (sem 𝓛 (box_owns chunk R (block_ptr b o) v.value)) (sem 𝓛 (fsep (part_at (Boxed (E R laws)) full_share v.value b o) (token (E R laws).al v.alloc (bare (τ (E R laws))) (block_ptr b o))))

  abbrev pub Same : Type 1
  Same = (v : D (E R laws)) (ws : List Val) → ent 𝓤 (sem 𝓛 ((B (E R laws)).own_val v ws)) (sem 𝓛 ((Apart R).own_val (record { ptr = v.ptr; alloc = v.alloc; value = v.value }) ws))

  -- the pointer is tested, and moves out with what the handle owns
  pub moves_out : Gives → Same → (a : Global) (p : Ptr) (x : Option R.Denot) (us vs : List Val) (Post : Val → SProp 𝓤)
      → ((u : Val) (found : Option (Apart R).Denot) → option_map (λ parts. parts.value) found ≡ x → ent 𝓤 (types.Kit.⋆ 𝓛 (‵ ((Out R).own_val found (u ∷ [])) ∷ [])) (Post u))
      → ent 𝓤 (types.Kit.⋆ 𝓛 ((‵ ftrue ⊛ ‵ (fsep (held R p x us) (fsep ((FromHeap.row tt).own_val a vs) ftrue))) ∷ raw (emp 𝓤) ∷ []))
      (WpFn 𝓤 H 𝓣.C 𝓣.Λ (into_fn name R) (us ++ (vs ++ [])) Post)
  moves_out gives parts a p x us vs Post ends =
      let fn = into_fn name R in
      qed 𝓛 ((‵ ftrue ⊛ ‵ (fsep (held R p x us) (fsep ((FromHeap.row tt).own_val a vs) ftrue))) ∷ raw (emp 𝓤) ∷ []) ∵ split ! $ drop ! $ fsplit ! $
      handle_out R ! p x us (λ ws. move ! (1 ∷ []) $ fsplit ! $ handle_tells (E R laws).al ! a vs (λ h eh fits. move ! (2 ∷ []) $
      either_owned a R ! p x
      (λ is none.
      let w : Val = word_of null_ptr in
      let same : us ≡ w ∷ [] = ws ∙ ap (λ (q : Ptr). word_of q ∷ []) is in
      suffices ! (WpFn 𝓤 H 𝓣.C 𝓣.Λ fn (w ∷ h ∷ []) Post) (subst (λ (ys : List Val). ent 𝓤 (WpFn 𝓤 H 𝓣.C 𝓣.Λ fn (w ∷ h ∷ []) Post) (WpFn 𝓤 H 𝓣.C 𝓣.Λ fn ys Post)) (sym (λ i. same i ++ (eh i ++ []))) (id⊢ 𝓤 _)) $
      enter ! 𝓣.C 𝓣.Λ fn (w ∷ h ∷ []) _ $ alloc_all ! (λ ls. pass_all ! refl ((tt, (record { fits = lit< tt }, tt)), (fits, tt)) $ let Ev = env fn.locals ls in
      sets ! (of_opd ! (get_in ! (fld ! refl (stop !)) (sub ! 0 refl (whole !)))) refl (tt, record { fits = lit< tt }) $
      sets ! (bin ! (get ! refl) (lit ! tt) tt) refl (tt, tt) $ first ! $ branches ! (get ! refl)
      (λ _. sets_last ! (agg ! (and_then ! (lit ! tt) (no_more !))) refl (tt, (record { fits = lit< tt }, tt)) $
      exec ! 𝓣.C 𝓣.Λ Ev (after 3 fn.body) (at_ret Ev Post) $ sets ! (of_opd ! (get ! refl)) refl (tt, (record { fits = lit< tt }, tt)) $
      use0 𝓛 (‵ ((Out R).own_val None (live 0 vnil ∷ []))) (none_of 𝓛 (Apart R)) $
      returns ! (look_at ! 0 refl) $ free_all ! refl $ keep ! (0 ∷ []) $ by ! (ends (live 0 vnil) None (sym none)))
      (λ wrong. absurd wrong)))
      (λ b o y is some it.
      let w : Val = word_of (block_ptr b o) in
      let same : us ≡ w ∷ [] = ws ∙ ap (λ (q : Ptr). word_of q ∷ []) is in
      let v : D (E R laws) = record { ptr = block_ptr b o; alloc = a; value = y } in let made : (Apart R).Denot = record { ptr = block_ptr b o; alloc = a; value = y } in
      let inner : Val = word (E R laws) h b o in let typed = box_typed (E R laws) h b o fits in let outer : Val = live 1 (vcons inner vnil) in
      let good : Good (layout (Out R)) outer = (and_tt _ typed.0, (record { fits = lit< tt }, (typed.1, tt))) in
      use1 𝓛 (‵ (fsep (part_at (Boxed (E R laws)) full_share y b o) (token (E R laws).al a (bare (τ (E R laws))) (block_ptr b o)))) (gives v b o) $
      fsplit ! $ box_in (E R laws) ! v b o y refl refl $ use1 𝓛 (‵ ((Apart R).own_val made (inner ∷ []))) (parts v (inner ∷ [])) $ use1 𝓛 (‵ ((Out R).own_val (Some made) (outer ∷ []))) (Some-of 𝓛 (Apart R) made inner) $ keep ! (0 ∷ []) $
      suffices ! (WpFn 𝓤 H 𝓣.C 𝓣.Λ fn (w ∷ h ∷ []) Post) (subst (λ (ys : List Val). ent 𝓤 (WpFn 𝓤 H 𝓣.C 𝓣.Λ fn (w ∷ h ∷ []) Post) (WpFn 𝓤 H 𝓣.C 𝓣.Λ fn ys Post)) (sym (λ i. same i ++ (eh i ++ []))) (id⊢ 𝓤 _)) $
      enter ! 𝓣.C 𝓣.Λ fn (w ∷ h ∷ []) _ $ alloc_all ! (λ ls. pass_all ! refl ((tt, (tt, tt)), (fits, tt)) $ let Ev = env fn.locals ls in
      sets ! (of_opd ! (get_in ! (fld ! refl (stop !)) (sub ! 0 refl (whole !)))) refl (tt, tt) $
      sets ! (bin ! (get ! refl) (lit ! tt) (tests_null (block_ptr b o) it)) refl (tt, tt) $ first ! $ branches ! (get ! refl)
      (λ wrong. absurd wrong)
      (λ _. sets ! (of_opd ! (get ! refl)) refl (tt, tt) $
      sets ! (agg ! (and_then ! (get ! refl) (and_then ! (get ! refl) (no_more !)))) refl typed $
      sets_last ! (agg ! (and_then ! (lit ! tt) (and_then ! (get ! refl) (no_more !)))) refl good $
      exec ! 𝓣.C 𝓣.Λ Ev (after 3 fn.body) (at_ret Ev Post) $ sets ! (of_opd ! (get ! refl)) refl good $
      returns ! (look_at ! 0 refl) $ free_all ! refl $ by ! (ends outer (Some made) (sym some)))))))
