-- A write in several parts is refused only where the whole had no room.
use Rattle.bgp_wire.proofs.Std.{◌≡◌, ℕ, ◌+◌, ◌<◌, List, ◌++◌, length, ap, ◌∙◌, append_assoc, arith}
use Rattle.std.proofs.lemmas.List.{length-append}
use Rattle.bgp_wire.specs.Prelude.{Extends}

-- what is written and what is left are together what was there and the whole: a refusal of the first part of what is left is one of the whole
pub lacks : (room : ℕ) (old whole now left part later : List ℕ) → now ++ left ≡ old ++ whole → left ≡ part ++ later → room < length now + length part
    → room < length old + length whole
lacks room old whole now left part later e f full =
    omega (arith, ap length e, ap length f, length-append now left, length-append old whole, length-append part later, full)

-- octets appended to what was appended before
pub extends_more : (a b c front : List ℕ) → b ≡ a ++ front → Extends b c → Extends a c
extends_more a b c front e more = (front ++ more.0, more.1 ∙ ap (λ (x : List ℕ). x ++ more.0) e ∙ append_assoc a front more.0)
