use Rattle.bgp_wire.proofs.Std.{refl, sym, ap, ◌∙◌, false≢true}
use Rattle.std.specs.Prelude.{not}
use Rattle.std.proofs.lemmas.Bool.{true≢false}
use Rattle.bgp_open.proofs.WrittenRows.{row-starts, row-grows, row-whole, row-misnamed, row-long, row-good}
use Rattle.bgp_open.proofs.row.row_of.Goals as goal

pub loop-capability-init : goal.loop-capability-init
loop-capability-init c = row-starts c.new-row.result.items c.new-row.ensures

pub loop-capability-preserved : goal.loop-capability-preserved
loop-capability-preserved c =
    row-grows c.args.caps.now c.loop-capability.capability-index c.capability-item.result c.loop-capability.row.items c.put.new.row.items c.loop-capability-test.true c.capability-item.is c.loop-capability.invariant
    c.if-is_misnamed.ensures c.if-not-put.ensures.added (c.put.ensures.spelled (ap not (sym c.if-is_misnamed.ensures))) (c.put.ensures.room.0 c.if-not-put.false)

pub returns-then-is_misnamed-clause-none : goal.returns-then-is_misnamed-clause-none
returns-then-is_misnamed-clause-none c =
    (λ none. row-misnamed c.args.caps.now c.loop-capability.capability-index c.capability-item.result c.loop-capability-test.true c.capability-item.is c.if-is_misnamed.ensures, λ bad. refl)

pub returns-then-not-put-clause-none : goal.returns-then-not-put-clause-none
returns-then-not-put-clause-none c = (
  λ none. row-long c.args.caps.now c.loop-capability.capability-index c.capability-item.result c.loop-capability.row.items c.loop-capability-test.true c.capability-item.is c.loop-capability.invariant
      (λ room. false≢true (sym c.if-not-put.true ∙ c.put.ensures.room.1 room)),
  λ bad. refl,
)

pub returns : goal.returns
returns c =
    let whole = row-whole c.args.caps.now c.loop-capability.capability-index c.loop-capability.row.items c.loop-capability-test.false c.loop-capability.invariant in
    record {
      none = (λ some. absurd (true≢false some), λ bad. sym bad ∙ row-good c.args.caps.now c.loop-capability.row.items whole);
      octets = whole.octets;
      spelled = whole.spelled;
    }
