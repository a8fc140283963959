-- `none` is the null pointer, which points to nothing.
use Rattle.ristulva_c.proofs.Walks.{[], ◌∷◌, refl, lit<, emp, Ptr, null_ptr, nothing, on_entry, Stays, walk_of, says, ends_at, raw, ◌$◌, ◌∵◌, !, qed, drop, feq_i, suffices, group, done, enter, lit, no_more, and_then, returns, alloc_all, pass_all, free_all, look_at, sets, agg, None, proved}
use Rattle.bgp_wide.specs.contracts.decoder.WideDecoder.{the_row as Body}
use Rattle.ristulva_c.proofs.Handles.{word_of, handle_in}
use Rattle.ristulva_c.specs.contracts.handle.StreamHandle.none as f
use Rattle.ristulva_c.proofs.handle.StreamHandle.none.Statement.{statement}
use Rattle.ristulva_c.proofs.handle.StreamHandle.none.Code as code

abbrev stayed : Stays f.ended.signature.params f.ended.kept
stayed = tt

pub none_spec : {M : Type 1} → statement M
none_spec 𝓤 𝓛 𝓜 𝓡 wired =
    let c = f.clauses 𝓛 𝓜.mem 𝓡.returns in let W = walk_of 𝓛 f.ended stayed c in
    proved 𝓛 f.ended stayed c 𝓜 𝓡 tt f.Key.name code.function (code.unfolded 𝓤 𝓛.H 𝓜 𝓡 wired) (λ κs. tt) (λ κs. tt) (λ κs qs bounds a g are.
    let y : W.Ghost = ((κs, qs, bounds, a, tt), g) in
    qed 𝓛 (raw (on_entry 𝓛 f.signature κs qs a tt) ∷ raw (emp 𝓤) ∷ []) ∵ drop ! $ drop ! $
    enter ! _ _ _ _ _ $ alloc_all ! (λ l. pass_all ! refl tt $
    sets ! (agg ! (and_then ! (lit ! tt) (no_more !))) refl (tt, (record { fits = lit< tt }, tt)) $
    returns ! (look_at ! 0 refl) $ free_all ! refl $
    suffices ! _ (ends_at 𝓛 f.ended stayed c y (word_of null_ptr) (record { body = null_ptr; value = None }) tt tt) $ says ! refl $
    feq_i ! Ptr null_ptr null_ptr refl $ handle_in Body ! null_ptr None $ nothing ! $ nothing ! $ group ! 3 $ done !))
