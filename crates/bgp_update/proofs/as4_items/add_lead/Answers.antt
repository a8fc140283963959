use Rattle.bgp_wire.proofs.Std.{ℕ, ◌<◌, ◌++◌, List, drop, sym, ap, ◌∙◌, arith, drop_all}
use Rattle.std.proofs.lemmas.List.{append-nil}
use Rattle.bgp_attr.specs.declared.path.Segment.{Segment}
use Rattle.bgp_update.specs.Prelude.{lead}
use Rattle.bgp_update.proofs.PathItems.{no_lead, lead_step}
use Rattle.bgp_update.proofs.as4_items.add_lead.Goals as goal

pub path-preserved : goal.path-preserved
path-preserved c =
    let some : 0 < c.path.left = omega (arith, c.if-left-eq0.false) in
    lead_step c.args.segments.now c.path.segment-index c.path.left c.items_in.result c.saturating_sub-left.result c.segment-item.result c.path.to.items c.add_front.new.to.items
    (c.args.to.now.items ++ lead c.args.items c.args.segments.now) c.path-test.true c.segment-item.is some c.in_ok-add_front.ensures c.saturating_sub-left.ensures c.items_in.ensures.value c.path.invariant

pub returns-after-path : goal.returns-after-path
returns-after-path c =
    sym (append-nil c.path.to.items) ∙ ap (λ (ss : List Segment). c.path.to.items ++ lead c.path.left ss) (sym (drop_all c.path.segment-index c.args.segments.now c.path-test.false)) ∙ c.path.invariant

pub returns-then-left-eq0 : goal.returns-then-left-eq0
returns-then-left-eq0 c =
    let rest = drop c.path.segment-index c.args.segments.now in
    sym (append-nil c.path.to.items) ∙ ap (λ (ss : List Segment). c.path.to.items ++ ss) (sym (ap (λ (k : ℕ). lead k rest) c.if-left-eq0.true ∙ no_lead rest)) ∙ c.path.invariant
