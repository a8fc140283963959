-- `into_parts` tests the pointer, and moves out what the handle owns.
use Rattle.ristulva_c.proofs.Walks.{[], ◌∷◌, refl, id⊢, WpFn, Tables, tables, tables_of, WpFn-mono, ‵, ◌$◌, ◌∵◌, !, qed, join, fjoin, suffices, done, yes, nothing, triple_of, entered, says, Stays, stay_dropped, walk_of, ends_at, Goes-dropped, walk_Meets, plain, Slot}
use Rattle.bgp_wide.specs.contracts.decoder.WideDecoder.{the_row as Body}
use Rattle.bgp_wide.proofs.decoder.WideDecoder.TheLaws.{the_row_laws}
use Rattle.ristulva_c.proofs.Handles.{FromHeap}
use Rattle.ristulva_c.proofs.HandleWalks.{Out, moves_out}
use Rattle.ristulva_c.specs.contracts.handle.StreamHandle as handle
use Rattle.ristulva_c.specs.contracts.handle.StreamHandle.into_parts as F
use Rattle.ristulva_c.proofs.handle.StreamHandle.into_parts.Statement as stated
use Rattle.ristulva_c.proofs.handle.StreamHandle.into_parts.Code as code

abbrev From : Slot 0
From = plain (λ _. handle.the_row)

abbrev stayed : Stays (F.ended).signature.params (F.ended).kept
stayed = (stay_dropped From yes, (stay_dropped FromHeap yes, tt))

pub into_parts_spec : {M : Type 1} → stated.statement M
unfolding tables_of
into_parts_spec 𝓤 𝓛 𝓜 𝓡 wired =
    let 𝓣 : Tables 𝓤 𝓛.H = tables_of 𝓤 𝓛.H 𝓜 (tables 𝓤 𝓛.H 𝓜 𝓡 𝓡.env) in
    let c = F.clauses 𝓛 𝓜.mem 𝓡.returns in let W = walk_of 𝓛 F.ended stayed c in
    entered 𝓤 𝓛.H (triple_of 𝓛 F.signature (F.spec 𝓛 𝓜.mem 𝓡.returns)) 𝓣.C 𝓣.Λ F.Key.name code.function (code.unfolded 𝓤 𝓛.H 𝓜 𝓡 wired)
    (walk_Meets 𝓛 F.ended stayed (Goes-dropped 𝓛 0 From yes (λ κs x f. refl), (Goes-dropped 𝓛 0 FromHeap yes (λ κs x f. refl), tt)) c (WpFn 𝓤 𝓛.H 𝓣.C 𝓣.Λ code.function) (WpFn-mono 𝓤 𝓛.H 𝓛.laws 𝓣 code.function)
    (λ z. let d = z.0.3.0 in
    moves_out 𝓛 𝓣 (handle.struct).name Body the_row_laws (λ v b o. id⊢ 𝓤 _) (λ v ws. id⊢ 𝓤 _) z.0.3.1.0 d.body d.value z.0.4.0 z.0.4.1.0 (W.post z) (λ u found is.
    qed 𝓛 (‵ ((Out Body).own_val found (u ∷ [])) ∷ []) ∵ suffices ! _ (ends_at 𝓛 F.ended stayed c z u found (tt, (tt, tt)) (tt, (tt, tt))) $
    says ! is $ nothing ! $ nothing ! $ fjoin ! $ nothing ! $ fjoin ! $ join ! $ nothing ! $ join ! $ done !)))
