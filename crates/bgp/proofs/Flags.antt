-- The reports of the flags where these say more than a context.
use Rattle.std.proofs.Common.{◌≡◌, ◌∙◌, Bool, false, Result, subst, sym}
use Rattle.bgp_open.specs.declared.context.Context.{Context}
use Rattle.bgp_terms.specs.Prelude.{Agreed}
use Rattle.bgp_engine.specs.Prelude.{Answers, Io, Reports}
use Rattle.bgp_engine.specs.declared.fault.ToolFault.{ToolFault}
use Rattle.bgp_engine.specs.declared.tally.Tally.{Tally}
use Rattle.bgp_words.specs.declared.request.FlagTerms.{FlagTerms}
use Rattle.bgp.specs.Command.{are_plain, by_flags, either_reports, flag_terms}

pub in_terms : (plain : Context → Reports) (under : Agreed → Reports) (f : FlagTerms) (test : Bool) → test ≡ are_plain f → test ≡ false → (terms : Agreed) → terms ≡ flag_terms f
    → (hex : Bool) (io : Io) (outcome : Result Tally ToolFault) → Answers (under terms) hex io outcome → Answers (by_flags plain under f) hex io outcome
in_terms plain under f test is none terms same hex io outcome a =
    subst (λ (b : Bool). Answers (either_reports b (plain f.context) (under (flag_terms f))) hex io outcome) (sym none ∙ is)
    (subst (λ (t : Agreed). Answers (under t) hex io outcome) same a)
