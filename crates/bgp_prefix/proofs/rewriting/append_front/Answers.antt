use Rattle.bgp_wire.proofs.Std.{ℕ, ◌≡◌, [], ◌∷◌, ◌++◌, ap, ◌∙◌, length, rules, arith, err_from_is_err_and}
use Rattle.std.specs.Int.Bits.{bit_and}
use Rattle.std.proofs.lemmas.List.{length-append}
use Rattle.bgp_prefix.proofs.BitLemmas.{length-leading_bits}
use Rattle.bgp_prefix.proofs.WrittenFronts.{front_written}
use Rattle.bgp_prefix.proofs.rewriting.append_front.Goals as goal

pub returns-in_err-put-2-clause-full : goal.returns-in_err-put-2-clause-full
returns-in_err-put-2-clause-full g c =
    let f = c.args.front in
    let p = err_from_is_err_and c.from_residual-in_err-put-2.result c.from_residual-in_err-put-2.ensures.1 in
    let written = g.O.Output.written in
    let read : f.read.now ≡ c.in-Some.whole.now ++ c.in-Some.last.now ∷ [] = search rules in
    rw p.1 (omega (
      arith,
      c.in_err-put-2.ensures.full,
      ap length c.in_ok-put.ensures.ok,
      length-append (written c.args.out.now) (f.len ∷ []),
      length-leading_bits f.read.now f.len,
      ap length read,
      length-append c.in-Some.whole.now (c.in-Some.last.now ∷ []),
    ))

pub returns-in_err-put-3-clause-full : goal.returns-in_err-put-3-clause-full
returns-in_err-put-3-clause-full g c =
    let f = c.args.front in
    let p = err_from_is_err_and c.from_residual-in_err-put-3.result c.from_residual-in_err-put-3.ensures.1 in
    let written = g.O.Output.written in
    let read : f.read.now ≡ c.in-Some.whole.now ++ c.in-Some.last.now ∷ [] = search rules in
    rw p.1 (omega (
      arith,
      c.in_err-put-3.ensures.full,
      ap length c.in_ok-put.ensures.ok,
      length-append (written c.args.out.now) (f.len ∷ []),
      ap length c.in_ok-put-2.ensures.ok,
      length-append (written c.put.new.self) c.in-Some.whole.now,
      length-leading_bits f.read.now f.len,
      ap length read,
      length-append c.in-Some.whole.now (c.in-Some.last.now ∷ []),
    ))

pub returns-in_ok-put-3-clause-ok : goal.returns-in_ok-put-3-clause-ok
returns-in_ok-put-3-clause-ok g c =
    let last = c.in-Some.last.now in
    let written = g.O.Output.written in
    let before = written c.put-in-Some.new.self in
    front_written c.args.front.len c.args.front.read.now c.in-Some.whole.now last (written c.args.out.now) (written c.put.new.self) before (written c.put-in-Some-2.new.self)
    c.requires c.in-Some.ensures.cases.0 (search rules)
    c.in_ok-put.ensures.ok c.in_ok-put-2.ensures.ok
    (c.in_ok-put-3.ensures.ok ∙ ap (λ (m : ℕ). before ++ bit_and last m ∷ []) c.mask.ensures)
