use Rattle.bgp_words.proofs.Prelude.{◌≡◌, map, List, [], sym, ap, subst, ◌∙◌, IfOk-weaker, err_from_is_err_and, App, FailsBy, HasKind, Kinds, Text, app_of}
use Rattle.bgp_words.proofs.Prelude.{fault_of, found_of, rows_of, is_simple, is_simple_and_free, subcommand_of, subcommand_rows_of, bgp_command, kinds_of}
use Rattle.bgp_words.proofs.Flags.{asks_behind, fails_behind, found_both, has_kind-first, name-rows}
use Rattle.bgp_words.proofs.CommandLines.{bgp_command-is_simple, bgp_command-is_free}
use Rattle.bgp_words.proofs.request.parse.Goals as goal

pub returns-in-Some-clause-faults : goal.returns-in-Some-clause-faults
returns-in-Some-clause-faults c =
    let words : List Text = map (λ w. w.now) c.args.words.now in
    let rows = rows_of (found_of c.in-Some.flags.now) in
    let command_is : app_of c.in_ok-bgp.field-0 ≡ bgp_command = c.in_ok-bgp.ensures in
    let rows_are : subcommand_rows_of c.in_ok-matches.matches ≡ subcommand_of bgp_command words =
    (c.in_ok-matches.ensures.matches (ap is_simple command_is ∙ bgp_command-is_simple)).1 ∙ ap (λ (a : App). subcommand_of a words) command_is in
    let found = sym rows_are ∙ found_both (subcommand_rows_of c.in_ok-matches.matches) c.in-Some.name.now rows (c.in-Some.ensures.name ∙ name-rows c.in_ok-matches.matches) c.in-Some.ensures.rows in
    let none : fault_of bgp_command words ≡ [] = ap (λ (a : App). fault_of a words) (sym command_is) ∙ c.in_ok-matches.ensures.kinds (ap is_simple_and_free command_is ∙ bgp_command-is_free) in
    fails_behind c.ask.result (fault_of bgp_command words) (kinds_of (subcommand_of bgp_command words)) none (subst (λ (k : Kinds). FailsBy k c.ask.result) (sym (ap kinds_of found)) c.ask.ensures.faults)

pub returns-in-Some-clause-asked : goal.returns-in-Some-clause-asked
returns-in-Some-clause-asked c =
    let words : List Text = map (λ w. w.now) c.args.words.now in
    let rows = rows_of (found_of c.in-Some.flags.now) in
    let command_is : app_of c.in_ok-bgp.field-0 ≡ bgp_command = c.in_ok-bgp.ensures in
    let rows_are : subcommand_rows_of c.in_ok-matches.matches ≡ subcommand_of bgp_command words =
    (c.in_ok-matches.ensures.matches (ap is_simple command_is ∙ bgp_command-is_simple)).1 ∙ ap (λ (a : App). subcommand_of a words) command_is in
    let found = sym rows_are ∙ found_both (subcommand_rows_of c.in_ok-matches.matches) c.in-Some.name.now rows (c.in-Some.ensures.name ∙ name-rows c.in_ok-matches.matches) c.in-Some.ensures.rows in
    IfOk-weaker c.ask.result _ _ (λ answer is. asks_behind words c.in-Some.name.now rows _ found is) c.ask.ensures.asked

pub returns-in_err-matches-clause-faults : goal.returns-in_err-matches-clause-faults
returns-in_err-matches-clause-faults c =
    let words : List Text = map (λ w. w.now) c.args.words.now in
    let command_is : app_of c.in_ok-bgp.field-0 ≡ bgp_command = c.in_ok-bgp.ensures in
    let error = c.in_err-matches.field-0.0 in
    let kinds = subst (λ (k : Kinds). HasKind k error) (ap (λ (a : App). fault_of a words) command_is) (c.in_err-matches.ensures.kinds (ap is_simple_and_free command_is ∙ bgp_command-is_free)) in
    let p = err_from_is_err_and c.from_residual-in_err-matches.result c.from_residual-in_err-matches.ensures.1 in
    rw (p.1, p.2) (has_kind-first (fault_of bgp_command words) (kinds_of (subcommand_of bgp_command words)) error kinds)
