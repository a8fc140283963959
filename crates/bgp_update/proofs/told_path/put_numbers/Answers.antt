use Rattle.bgp_wire.proofs.Std.{false, err_from_is_err_and}
use Rattle.bgp_wire.proofs.Rooms.{extends_more}
use Rattle.bgp_prefix.specs.declared.as_number.AsNumber.{AsNumber}
use Rattle.bgp_attr.specs.Prelude.{as_numbers_left, number_octets}
use Rattle.bgp_attr.proofs.ViewWrites.{one_more, no_more}
use Rattle.bgp_update.specs.Prelude.{narrow_number}
use Rattle.bgp_update.proofs.told_path.put_numbers.Goals as goal

pub row-preserved : goal.row-preserved
row-preserved c =
    one_more (λ (n : AsNumber). number_octets false (narrow_number n).0) (as_numbers_left c.args.numbers) (as_numbers_left c.row.number-iterator) c.args.out.now.items c.row.out.items c.row.invariant
    c.in-Some.number (as_numbers_left c.next.new.self) c.put_number.new.out.items c.in-Some.ensures.steps c.in_ok-put_number.ensures.ok

pub returns-clause-ok : goal.returns-clause-ok
returns-clause-ok c =
    no_more (λ (n : AsNumber). number_octets false (narrow_number n).0) (as_numbers_left c.args.numbers) (as_numbers_left c.row.number-iterator) c.args.out.now.items c.row.out.items c.row.invariant
    c.in-None.ensures.steps.0

pub returns-in_err-put_number-clause-err : goal.returns-in_err-put_number-clause-err
returns-in_err-put_number-clause-err c =
    let p = err_from_is_err_and c.from_residual.result c.from_residual.ensures.1 in
    let begins = c.row.invariant.begins in
    rw p.1 (extends_more c.args.out.now.items c.row.out.items c.put_number.new.out.items begins.0 begins.1 c.in_err-put_number.ensures.err)
