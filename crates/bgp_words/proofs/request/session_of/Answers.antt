use Rattle.bgp_words.proofs.Prelude.{Option, ap, ◌∙◌, Text, found_of, rows_of, flag_terms_of, session_by}
use Rattle.bgp_words.specs.declared.request.FlagTerms.{FlagTerms}
use Rattle.bgp_words.specs.declared.request.Session.TheVariants.{Flags}
use Rattle.bgp_words.proofs.request.session_of.Goals as goal

pub returns-in-Some : goal.returns-in-Some
returns-in-Some c = ap (λ (o : Option Text). session_by o (flag_terms_of c.args.as4 (rows_of (found_of c.args.flags.now)))) c.in-Some.ensures

pub returns-in-None : goal.returns-in-None
returns-in-None c =
    ap (λ (terms : FlagTerms). Flags terms) c.flag_terms.ensures
    ∙ ap (λ (o : Option Text). session_by o (flag_terms_of c.args.as4 (rows_of (found_of c.args.flags.now)))) c.in-None.ensures
