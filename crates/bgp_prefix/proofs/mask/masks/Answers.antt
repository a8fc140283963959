use Rattle.bgp_wire.proofs.Std.{◌≡◌, ap, ◌∙◌, arith, inl, inr, cases_lt, length-set, get_or-set_other}
use Rattle.std.proofs.lemmas.Grind.{get_or-set_at}
use Rattle.bgp_prefix.specs.Prelude.{mask_of}
use Rattle.bgp_prefix.proofs.mask.masks.Goals as goal

pub loop-i-preserved : goal.loop-i-preserved
loop-i-preserved g c =
    let masks = c.loop-i.masks in
    let i = c.loop-i.i in
    let long = c.loop-i.invariant.0 in (
      length-set masks i c.mask.result ∙ long,
      λ k lt. elim (cases_lt k i) [
        | inl less ↦ get_or-set_other masks i k c.mask.result 0 (λ same. omega (arith, same, less)) ∙ c.loop-i.invariant.1 k less
        | inr more ↦
            let same : i ≡ k = omega (arith, lt, more) in
            get_or-set_at masks i k c.mask.result 0 (omega (arith, same)) (omega (arith, long, c.loop-i-test.true)) ∙ c.mask.ensures ∙ ap (mask_of c.args.len) same
      ],
    )
