-- Re-exports the names of std, of the crates below and of this crate that its proofs cite. Declares nothing.
pub use Rattle.bgp_wire.proofs.Std.{Bool, Box, Err, Global, IfOk-weaker, List, None, Ok, Option, Result, Some, [], and_parts, ap, arith, codes, cond, drop, eqb-true, err_from_is_err_and, false, get_or, inl, inr, le-leb, leb-true, length, lit<, ltb-true, map, nat_le, nat_lt, not, not-true, option_map, or_cases, refl, subst, suc, sym, true, true≢false, ℕ, ◌&&◌, ◌<◌, ◌==◌, ◌^◌, ◌||◌, ◌∙◌, ◌∷◌, ◌≡◌, ◌≢◌}
pub use Rattle.std.proofs.Math.Bool.{or-false}
pub use Rattle.std.specs.Str.{all_ascii_digits}
pub use Rattle.std.specs.Str.Parse.{ParsesUnsigned, digits_value}
pub use Rattle.clap.specs.Words.{App, FailsBy, HasKind, Kinds, Row, Text, app_of, fault_of, first_of, found_of, is_simple, is_simple_and_free, rows_of, subcommand_name_of, subcommand_of, subcommand_rows, subcommand_rows_of}
pub use Rattle.clap.specs.declared.builder.command.Command.TheViews.{out-Command}
unfoldable pub use Rattle.clap.proofs.OnLiterals.{clap_on_literals}
pub use Rattle.bgp_wire.specs.Prelude.{also, has_octet, none_of_them, when, ◌>>=◌}
pub use Rattle.bgp_attr.specs.Prelude.{has_entry, is_recognised}
pub use Rattle.bgp_words.specs.CommandLine.{Asks, IsAsked, bgp_command, drops_by, file_in, first_file, first_kinds, flag_terms_of, is_set, is_true, kinds_of, request_by, session_by, text_or_empty, types_in, with_families, with_flag, with_opens, with_option, with_paths, with_refreshes}
pub use Rattle.bgp_words.specs.TypeList.{all_but, is_other, octet_of, type_of, types_behind, types_of, words_of}
pub use Rattle.bgp_words.specs.Hints.{are_all, is_digit_or_space, is_printed, spot_behind}
