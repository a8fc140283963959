-- Re-exports the names of std that most proofs cite. Declares nothing.
pub use Rattle.std.proofs.Common.{All, Bool, Bor, Box, Err, Global, IsErrOf, IsTrue, IsUtf8, List, None, Ok, OnErr, OnOk, Option, Result, Some, T, [], add-zero, ap, append_assoc, ap₂, arith, chars, codes, cond, drop, drop-drop, eq-eqb, eq-zero-or-pos, eqb, eqb-true, eqb→eq, false, get_or, get_or-set_other, get_or-set_same, if◌then◌else◌, inl, inr, leb, length, length-append, length-drop, length-set, lit<, ltb, map, min, nat_eq, nat_le, nat_lt, ne_eqb, not, option_map, refl, replicate, rules, set, slice_index_or, string_bytes, subst, suc, sym, take, take_all, true, true≢false, w64, zero, ℕ, ◌%◌, ◌&&◌, ◌*◌, ◌++◌, ◌+◌, ◌-◌, ◌/◌, ◌<◌, ◌==◌, ◌^◌, ◌||◌, ◌↔◌, ◌∙◌, ◌∷◌, ◌≡◌, ◌≢◌, ◌≤◌, ◌⊎◌}
pub use Rattle.std.specs.List.{AllByRecursion, Contains, filter, find, flat_map, insert, list_all, list_any, onto_first, position, position_or_len, range_with_len, slice_get, slice_range}
pub use Rattle.std.specs.Int.{bit_at, bit_not, byte_at, bytes_high_first, from_be_bytes, to_be_bytes, w16, w32}
pub use Rattle.std.specs.Option.{option_copied, option_or, unwrap_or}
pub use Rattle.std.proofs.lemmas.List.{append_cancel_left, append_cancel_right, at_drop_all, at_drop_more, drop-append-le, drop-set, drop-set-lt, drop-take, drop_all, drop_at, drop_min, drop_more, flat_map_more, get_or-append-add, get_or-append_right, get_or-drop, get_or-replicate, get_or-take, get_or_append_left, get_or_default, get_or_past, length-map, length-replicate, length-take-le, length_push, map-append, map-id, nil_from_length, same_lists, set-append_right, set_at, take-append-drop, take-append-le, take-map, take-take, take_at, take_more, take_more_set, take_rest}
pub use Rattle.std.proofs.lemmas.List.Concat.{flat_map-append, flat_map-cons}
pub use Rattle.std.proofs.lemmas.List.Folds.{find-append, flat_map-map, length-flat_map-take, list_any-append, list_any_at, list_any_more}
pub use Rattle.std.proofs.lemmas.Bool.{and_from, and_left, and_parts, and_right, both_ways, cases_eq, cases_lt, cases_order, cond-false, cond-true, cond_both, eqb-false, false_from_ne_true, false≢true, le-leb, le-ltb, leb-false, leb-true, lt-leb, ltb-false, ltb-true, not-false, not-true, not_from_false, not_from_true, or_cases, or_from, or_left, or_parts, or_right}
pub use Rattle.std.proofs.lemmas.Result.{IfOk-weaker, err_from_is_err_and, on_err_weaker, on_ok_weaker}
pub use Rattle.std.proofs.lemmas.Nat.{be_bytes_2, be_bytes_4, from_be_bytes-to_be_bytes_2, from_be_bytes-to_be_bytes_4, mod-mul-add, pow-add, pow_pos}
pub use Rattle.std.proofs.Math.Seq.{drop-append-add, drop-append_seam, drop-nil, take-add, take-append-add, take-append_seam, take-length, take-suc}
