use Rattle.bgp_wire.proofs.Std.{ap, arith, length, ◌++◌, to_be_bytes, w16}
use Rattle.std.proofs.lemmas.List.{length-append}
use Rattle.bgp_paths.specs.Prelude.{plain_field, plain_run}
use Rattle.bgp_paths.proofs.Lengths.{field_shorter, run_shorter}
use Rattle.bgp_paths.proofs.plain_body.PlainBody.put_parts.Goals as goal

pub put_run-requires : goal.put_run-requires
put_run-requires c = omega (arith, c.requires, ap length c.truncate-2.ensures, run_shorter c.args.families.ip4 c.args.withdrawn.now)

pub put_counted-requires : goal.put_counted-requires
put_counted-requires c =
    omega (
      arith,
      c.requires,
      ap length c.truncate.ensures,
      ap length c.truncate-2.ensures,
      ap length c.as_slice.ensures,
      ap length c.put_run.ensures,
      length-append c.truncate-2.new.self (plain_run c.args.families.ip4 c.args.withdrawn.now),
      run_shorter c.args.families.ip4 c.args.withdrawn.now,
    )

pub put_field-requires-clause-room : goal.put_field-requires-clause-room
put_field-requires-clause-room c = omega (arith, c.requires, ap length c.truncate-3.ensures, field_shorter c.args.families c.args.attributes.now)

pub put_counted-requires-2 : goal.put_counted-requires-2
put_counted-requires-2 c =
    omega (
      arith,
      c.requires,
      ap length c.truncate.ensures,
      ap length c.truncate-2.ensures,
      ap length c.truncate-3.ensures,
      ap length c.as_slice.ensures,
      ap length c.put_run.ensures,
      ap length c.put_counted.ensures,
      length-append c.truncate-2.new.self (plain_run c.args.families.ip4 c.args.withdrawn.now),
      run_shorter c.args.families.ip4 c.args.withdrawn.now,
      length-append c.truncate.new.self (to_be_bytes w16 (length c.as_slice.result.now) ++ c.as_slice.result.now),
      ap length c.as_slice-2.ensures,
      ap length c.put_field.ensures,
      length-append c.truncate-3.new.self (plain_field c.args.families c.args.attributes.now),
      field_shorter c.args.families c.args.attributes.now,
    )

pub put_run-requires-2 : goal.put_run-requires-2
put_run-requires-2 c =
    omega (
      arith,
      c.requires,
      ap length c.truncate.ensures,
      ap length c.truncate-2.ensures,
      ap length c.truncate-3.ensures,
      ap length c.as_slice.ensures,
      ap length c.put_run.ensures,
      ap length c.put_counted.ensures,
      length-append c.truncate-2.new.self (plain_run c.args.families.ip4 c.args.withdrawn.now),
      run_shorter c.args.families.ip4 c.args.withdrawn.now,
      length-append c.truncate.new.self (to_be_bytes w16 (length c.as_slice.result.now) ++ c.as_slice.result.now),
      ap length c.as_slice-2.ensures,
      ap length c.put_field.ensures,
      length-append c.truncate-3.new.self (plain_field c.args.families c.args.attributes.now),
      field_shorter c.args.families c.args.attributes.now,
      ap length c.put_counted-2.ensures,
      length-append c.put_counted.new.out (to_be_bytes w16 (length c.as_slice-2.result.now) ++ c.as_slice-2.result.now),
      run_shorter c.args.families.ip4 c.args.nlri.now,
    )
