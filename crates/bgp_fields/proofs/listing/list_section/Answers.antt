use Rattle.bgp_fields.proofs.Prelude.{◌≡◌, ℕ, true, ◌==◌, List, [], length, map, Option, ap, sym, ◌∙◌, arith, Reading, Field, Group, Unread, SectionPart}
use Rattle.bgp_fields.proofs.Prelude.{ValuePart, value_fields_in, section_fields_in, section_plan_in, listed}
use Rattle.bgp_fields.proofs.Walks.{walk-none}
use Rattle.bgp_fields.proofs.Listings.{listed-none, none_left}
use Rattle.bgp_fields.proofs.listing.list_section.Goals as goal

no-fields : (r : Reading) (part : SectionPart) (at : ℕ) (group : Option Group) (b : List ℕ) → (length b == 0) ≡ true → section_fields_in r part at group b ≡ []
no-fields r part at group b e =
    ap (section_fields_in r part at group) (none_left b e) ∙ walk-none ValuePart SectionPart (SectionPart.All Unread) (section_plan_in r) (value_fields_in r) part at group

pub returns-then-is_empty-clause-list : goal.returns-then-is_empty-clause-list
returns-then-is_empty-clause-list g c =
    sym (ap (λ (fs : List Field). listed c.args.count (map g.T.Listed.told fs) c.args.list.now)
    (no-fields c.args.reading.now c.args.part c.args.at c.args.group c.args.octets.now (sym c.is_empty.ensures ∙ c.if-is_empty.true))
    ∙ listed-none g.row.T.Denot c.args.count c.args.list.now)

pub returns-then-is_empty-clause-count : goal.returns-then-is_empty-clause-count
returns-then-is_empty-clause-count g c =
    omega (arith, ap length (no-fields c.args.reading.now c.args.part c.args.at c.args.group c.args.octets.now (sym c.is_empty.ensures ∙ c.if-is_empty.true)))
