-- The names for the handles' walks by hand.
pub use lib.Dec.{T}
pub use seplogic.Ra.Ura.{Ura}
pub use base.Fml.{ftrue, fsep, flft}
pub use base.Logic.{SProp, ent, emp, id⊢, never, fst∗}
pub use contract.BorrowLft.{◌⊑◌}
pub use contract.Monad.{Fun, fact}
unfoldable pub use contract.Running.{tables, tables_of}
pub use mir.MapTy.{inst_fn}
pub use mir.Raw.{raw as bare}
pub use mir.Syntax.{Fn, Body, place, copy, assign, rv_opd, seq, return, Args, Dict, a_type, dcons, dnil}
pub use mir.Val.{Val, vcons, vnil, vptr, has_ty, WT, vstruct, of_list}
pub use prog.Memory.{Memory}
pub use prog.Routine.{Routine}
pub use prog.Wp.{WpFn, Tables}
pub use sound.WpLaws.{WpFn-mono, fm_of}
pub use types.ByLocal.{alloc_all, pass_all, free_all, look_at, get, get_in, sets, sets_last, env, lands_last, lands_as}
pub use types.Kit.{‵, raw, ◌⊛◌, at_ret, ◌$◌, ◌∵◌, !, qed, move, keep, drop, use0, use1, join, split, fsplit, fjoin, suffices, done, feq_i, group, Item, by, some, later, split3, pick, rewrite, await, fpick, feq_l}
pub use types.Logic.{Logic, sem}
pub use types.Match.{live}
pub use types.Part.{whole, sub, agg}
pub use types.Run.{stop, fld, lit, bin, no_more, and_then, of_opd, first, branches, exec, returns, enter, blocks}
pub use denote.Exit.{yes, no}
pub use denote.Param.{layout, bounded}
pub use denote.RattleType.{RattleType}
pub use denote.RawPtr.{Ptr, block_ptr, null_ptr, tests_null, RawPtr, ptr_val, in_a_block}
pub use denote.Signature.{type_at, plain, Slot}
pub use denote.Steps.{nothing, heard, only}
pub use denote.Struct.Tuple.{Tuple}
pub use denote.Triple.Call.{calls_at_last, calls_at}
pub use denote.Triple.Clauses.{Ended, Clauses}
pub use denote.Triple.Entry.{on_entry}
pub use denote.Triple.Spec.{triple_of}
pub use denote.Triple.Statement.{Triple, Contract}
pub use denote.Triple.Table.{entered}
pub use denote.Triple.Walked.{says, Stays, stay_dropped, walk_of, ends_at, Goes-dropped, walk_Meets}
pub use Rattle.core.proofs.alloc.Calls.{handle_tells, token, Goes-blank}
pub use Rattle.core.proofs.alloc.Shapes.{after}
pub use Rattle.core.proofs.cell.Inside.{Good}
pub use Rattle.core.proofs.option.Made.{Some-of, none_of}
pub use Rattle.std.proofs.Common.{◌≡◌, List, [], ◌∷◌, ◌++◌, refl, sym, ap, ◌∙◌, subst, lit<}
pub use Rattle.std.proofs.raw_atomic.Walks.{proved}
pub use Rattle.std.specs.Prelude.{None, Some}
pub use Rattle.std_alloc.proofs.BoxSteps.Form.{D, word, box_typed, B, Bx, R, P, args, box_ty, τ}
pub use Rattle.std_alloc.proofs.BoxSteps.Steps.{box_in, box_out}
pub use Rattle.std_alloc.proofs.ResultValues.{and_tt}
pub use Rattle.std_alloc.specs.Box.Ownership.{box_owns}
