use Rattle.bgp_wire.proofs.Std.{List, map, get_or, ap, ◌∙◌, get_or_default}
use Rattle.bgp_prefix.specs.declared.as_number.AsNumber.{AsNumber}
use Rattle.bgp_update.specs.Prelude.{narrow_number}
use Rattle.bgp_update.proofs.Lists.{one_mapped, all_mapped}
use Rattle.bgp_update.proofs.two_octets.narrow_segment.Goals as goal

pub row-preserved : goal.row-preserved
row-preserved c =
    let xs = c.deref-number-items.result.now in
    let i = c.row.number-index in (
      one_mapped narrow_number xs i (get_or xs i _) c.narrow_number.result c.row.numbers c.push.new.self
          c.row-test.true (get_or_default xs i _ (get_or xs i _) c.row-test.true) c.narrow_number.ensures c.row.invariant.0 c.in_ok-push.ensures.ok,
      c.row.invariant.1,
    )

pub returns : goal.returns
returns c =
    ap (λ (ns : List AsNumber). record { kind = c.args.segment.now.kind; numbers = ns }) (all_mapped narrow_number c.deref-number-items.result.now c.row.number-index c.row.numbers c.row-test.false c.row.invariant.0
    ∙ ap (map narrow_number) c.row.invariant.1)
