use Rattle.bgp_text.proofs.Prelude.{◌≡◌, ◌+◌, ◌-◌, drop, ◌∙◌, arith, append_assoc}
use Rattle.bgp_text.proofs.Decimals.{behind_thousands, longer_by_three, own_digits}
use Rattle.bgp_text.proofs.decimal.write_digits.Goals as goal

pub overflow_sub-at : goal.overflow_sub-at
overflow_sub-at c = omega (arith, longer_by_three c.groups.left c.groups-test.true c.groups.auto.left-fits.fits)

pub groups-preserved : goal.groups-preserved
groups-preserved c =
    let l = c.groups in
    let long = longer_by_three l.left c.groups-test.true l.auto.left-fits.fits in
    let back : l.at - 3 + 3 ≡ l.at = omega arith in (
      omega arith,
      omega arith,
      omega arith,
      rw (c.write_three.ensures, back) (rw (behind_thousands l.left c.groups-test.true l.auto.left-fits.fits, append_assoc) at l.invariant.3),
    )

pub overflow_sub-at-2 : goal.overflow_sub-at-2
overflow_sub-at-2 c = omega arith

pub returns-clause-written : goal.returns-clause-written
returns-clause-written c =
    let l = c.groups in
    let back : l.at - 3 + 3 ≡ l.at = omega arith in
    own_digits l.left l.at c.width-digits.result _ (drop l.at l.octets) c.width-digits.ensures.within.1 (omega arith) (rw back at c.write_three-2.ensures) c.width-digits.ensures.digits ∙ l.invariant.3
