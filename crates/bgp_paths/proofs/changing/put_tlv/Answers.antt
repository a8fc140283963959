use Rattle.bgp_wire.proofs.Std.{ap, arith, length}
use Rattle.std.proofs.lemmas.List.{length-append}
use Rattle.bgp_paths.specs.Prelude.{plain_behind}
use Rattle.bgp_paths.proofs.Lengths.{behind_shorter, value_short}
use Rattle.bgp_paths.proofs.changing.put_tlv.Goals as goal

pub put_octets-requires-clause-short : goal.put_octets-requires-clause-short
put_octets-requires-clause-short c e =
    let t = c.args.tlv.now in
    omega (
      arith,
      ap length c.as_slice.ensures,
      ap length c.put_value.ensures,
      ap length c.truncate.ensures,
      length-append c.truncate.new.self (plain_behind c.identified.result c.in-Some.head t.value.now),
      behind_shorter c.identified.result c.in-Some.head t.value.now,
      value_short t.flags.0 t.kind t.value.now t.whole.now t.spelled c.are_octets.ensures e,
    )
