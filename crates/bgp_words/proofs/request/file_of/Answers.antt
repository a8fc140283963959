use Rattle.bgp_words.proofs.Prelude.{codes, Option, ap, ◌∙◌, Text, first_of, found_of, rows_of, first_file, text_or_empty}
use Rattle.bgp_words.proofs.request.file_of.Goals as goal

pub returns-in-Some : goal.returns-in-Some
returns-in-Some c = ap (λ (o : Option Text). text_or_empty (first_file o (first_of (codes "SCRIPT") (rows_of (found_of c.args.flags.now))))) c.in-Some.ensures

pub returns-in-None : goal.returns-in-None
returns-in-None c =
    c.script_of.ensures ∙ ap (λ (o : Option Text). text_or_empty (first_file o (first_of (codes "SCRIPT") (rows_of (found_of c.args.flags.now))))) c.in-None.ensures
