-- A trace made with other octets: nothing ties its ghost value to memory.
use Rattle.std.proofs.Common.{[], ◌∷◌, ◌++◌, take, drop, length, w64, refl}
use mir.Syntax.{named}
use mir.Val.{Val, vptr, vint, vstruct, vnil}
use base.Logic.{emp, via, fst∗}
use types.Kit.{‵, raw, ◌$◌, ◌∵◌, !, qed, move, keep, fjoin, suffices, done}
use types.Run.{no_more, returns, enter}
use types.Part.{agg}
use types.ByLocal.{alloc_all, pass_all, free_all, look_at, sets}
use denote.Builtin.{u8, usize, RefOf, SliceRefOf}
use denote.Exit.{yes}
use denote.Plain.{uint_vals, uint_Tells}
use denote.RattleType.{owns}
use denote.Ref.{shr_vals, shr_Tells}
use denote.Shadow.{pure_i}
use denote.Signature.{plain, types_at}
use denote.Slice.{slice_val, shr_slice_vals, shr_slice_Tells}
use denote.Steps.{nothing}
use denote.Triple.Entry.{alive}
use denote.Triple.Walked.{says, stay_dropped, Stays, ends_at, Goes-dropped}
use Rattle.std.proofs.raw_atomic.Walks.{proved}
use Rattle.bgp_wire.specs.contracts.trace.Trace.spliced as f
use Rattle.bgp_wire.proofs.trace.Trace.spliced.Statement.{statement}
use Rattle.bgp_wire.proofs.trace.Trace.spliced.Code as code
use Rattle.bgp_wire.specs.contracts.trace.Trace as trace

abbrev stayed : Stays (f.ended).signature.params (f.ended).kept
stayed = (stay_dropped _ yes, (stay_dropped _ yes, (stay_dropped _ yes, (stay_dropped _ yes, tt))))

pub spliced_spec : {M : Type 1} → statement M
spliced_spec 𝓤 𝓛 𝓜 𝓡 wired =
    let c = f.clauses 𝓛 𝓜.mem 𝓡.returns in
    let word = Goes-dropped 𝓛 2 (plain (λ _. usize)) yes (λ κs x w. refl) in
    proved 𝓛 f.ended stayed c 𝓜 𝓡 (Goes-dropped 𝓛 2 (RefOf (0 ∷ []) tt (plain (λ _. trace.the_row)) (λ _. tt)) yes (λ κs x w. refl), (word, (word, (Goes-dropped 𝓛 2 (SliceRefOf (1 ∷ []) tt (plain (λ _. u8)) (λ _. tt)) yes (λ κs x w. refl), tt))))
    f.Key.name code.function (code.unfolded 𝓤 𝓛.H 𝓜 𝓡 wired) (λ κs. (shr_vals, (uint_vals w64, (uint_vals w64, (shr_slice_vals, tt)))))
    (λ κs. (shr_Tells (named 0) κs.0 trace.the_row, (uint_Tells w64, (uint_Tells w64, (shr_slice_Tells (named 1) κs.1.0 u8, tt))))) (λ κs qs bounds a g are. via 𝓤 _ (fst∗ 𝓤 _ (emp 𝓤)) (
    let before : Val = vptr a.0.ref_ptr.0 a.0.ref_ptr.1 in
    let others : Val = slice_val a.1.1.1.0.ref_ptr (length a.1.1.1.0.now) in
    let made : trace.the_row.Denot = record { octets = take a.1.0 a.0.now.octets ++ (a.1.1.1.0.now ++ drop a.1.1.0 a.0.now.octets) } in
    qed 𝓛 (raw (alive 𝓛 f.signature κs qs) ∷ ‵ (owns (types_at f.signature.params κs) a (before ∷ [], (vint w64 a.1.0 ∷ [], (vint w64 a.1.1.0 ∷ [], (others ∷ [], tt))))) ∷ []) ∵ keep ! (0 ∷ []) $ enter ! _ _ _ _ _ $
    alloc_all ! (λ l. pass_all ! refl ((tt, tt), ((tt, record { fits = are.1.0.1 }), ((tt, record { fits = are.1.1.0.1 }), ((tt, (tt, (record { fits = are.1.1.1.0.0.1.0 }, tt))), tt)))) $
    sets ! (agg ! (no_more !)) refl (tt, tt) $ returns ! (look_at ! 0 refl) $ free_all ! refl $
    suffices ! _ (ends_at 𝓛 f.ended stayed c ((κs, qs, tt, a, (before ∷ [], (vint w64 a.1.0 ∷ [], (vint w64 a.1.1.0 ∷ [], (others ∷ [], tt))))), tt) (vstruct vnil) made (tt, (tt, (tt, (tt, tt)))) (tt, (tt, (tt, (tt, tt))))) $
    says ! refl $ pure_i ! (trace.the_row.own_val made (vstruct vnil ∷ [])) ((λ vss. (tt, tt)), tt) ((tt, (refl, tt)), tt) $
    nothing ! $ nothing ! $ fjoin ! $ nothing ! $ fjoin ! $ nothing ! $ fjoin ! $ nothing ! $ fjoin ! $ move ! (2 ∷ 0 ∷ 1 ∷ []) $ done !)))
