use Rattle.bgp_text.proofs.Prelude.{◌-◌, drop, arith, take_all, length-drop, IsUtf8-from_ascii}
use Rattle.bgp_text.proofs.word.Word.text.Goals as goal

pub from_utf8_unchecked-requires : goal.from_utf8_unchecked-requires
from_utf8_unchecked-requires c =
    let w = c.self.inside in
    IsUtf8-from_ascii _ (rw (take_all (72 - w.at) (drop w.at w.octets) (omega (arith, length-drop w.at w.octets))) c.self.invariant.1)
