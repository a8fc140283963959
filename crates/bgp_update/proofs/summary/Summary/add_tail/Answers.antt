use Rattle.std.proofs.Common.{◌≡◌, ◌<◌, List, ℕ, [], ◌∷◌, length, refl, sym, ap, subst, ◌∙◌, arith}
use Rattle.bgp_attr.specs.TlvView.{IsTail}
use Rattle.bgp_attr.specs.declared.attr.Attr.TheVariants as attr
use Rattle.bgp_update.specs.Prelude.{Mark, cut, cut_kind, cut_mark, summary_behind, SummaryValue, summary_value}
use Rattle.bgp_update.proofs.summary.Summary.add_tail.Goals as goal

-- an attribute that is cut off has a mark
some-cut : (s t : SummaryValue) (at : ℕ) (rest : List ℕ) → 0 < length rest → ((m : Mark) → m.judged ≡ cut rest → t ≡ summary_behind s (m ∷ [])) → t ≡ summary_behind s (cut_mark at rest)
some-cut s t at [] some adds = absurd (omega (arith, some))
some-cut s t at (flags ∷ rest) some adds = adds (record { at = at; kind = cut_kind (flags ∷ rest); judged = cut (flags ∷ rest) }) refl

pub returns-in-Cut-clause-adds : goal.returns-in-Cut-clause-adds
returns-in-Cut-clause-adds c rest at tail =
    let is = subst (IsTail rest) c.in-Cut.is tail in
    some-cut (summary_value c.args.self.now) (summary_value c.refuse.new.self) at rest is.1 (λ m e. c.refuse.ensures.adds attr.Atomic m (e ∙ ap cut (sym is.0) ∙ sym (c.cut.ensures.value [] attr.Atomic)))
