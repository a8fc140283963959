use Rattle.bgp_text.proofs.Prelude.{◌≡◌, ◌+◌, ◌-◌, ◌++◌, length, drop, arith, ap, ◌∙◌, length-drop, hex_octet}
use Rattle.bgp_text.proofs.Words.{hex_ascii}
use Rattle.bgp_text.proofs.word.Word.hex_pair.Goals as goal

pub invariant_of-self : goal.invariant_of-self
invariant_of-self c =
    let w = c.self.inside in
    let left = length-drop w.at w.octets in
    let same = ap length c.self.view_is in
    let back : w.at - 4 + 2 + 2 ≡ w.at = omega (arith, left, same, c.requires, c.self.told, c.self.invariant.0) in
    let is = c.write_hex-2.ensures ∙ ap (λ b. hex_octet c.args.high ++ b) (c.write_hex.ensures ∙ ap (λ k. hex_octet c.args.low ++ drop k w.octets) back) in (
      omega (arith, c.self.invariant.0),
      hex_ascii c.args.high c.args.low (drop w.at w.octets) _ c.ranges.high.fits c.ranges.low.fits c.self.invariant.1 is,
    )
