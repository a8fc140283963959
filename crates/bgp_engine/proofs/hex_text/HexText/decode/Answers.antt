use Rattle.bgp_engine.proofs.Prelude.{ℕ, [], ◌∷◌, ap, sym, ◌∙◌, arith, AreOctets-nil, AreOctets-one}
use Rattle.std.proofs.Common.{append-nil}
use Rattle.arrayvec.specs.ArrayVec.{ArrayVec}
use Rattle.bgp_engine.proofs.HexReads.{pending_short, Decodes-next}
use Rattle.bgp_engine.proofs.hex_text.HexText.decode.Goals as goal
use Rattle.bgp_engine.proofs.hex_text.HexText.decode.Goals.{in-Nothing, in-Octet}

pub text-preserved : goal.text-preserved
text-preserved c =
    let at = c.text in
    let one = pending_short c.take.new.self in
    let behind = c.in-Some.ensures.cases.0 in
    elim c.match-take.branch [
      | in-Nothing w ↦
          Decodes-next c.args.self.now at.self c.take.new.self c.take_pairs-rest.new.self c.args.text.now at.rest.now c.in-Some.behind.now c.take_pairs-rest.result.now at.octets.items [] c.match-take.octets.items
          c.take_pairs-rest.new.octets.items c.in-Some.character.now at.invariant behind w.in-Nothing.ensures (omega arith) AreOctets-nil (ap (λ (v : ArrayVec ℕ). v.items) w.octets-is ∙ sym (append-nil at.octets.items)) c.take_pairs-rest.ensures
      | in-Octet w ↦
          Decodes-next c.args.self.now at.self c.take.new.self c.take_pairs-rest.new.self c.args.text.now at.rest.now c.in-Some.behind.now c.take_pairs-rest.result.now at.octets.items (w.in-Octet.octet ∷ []) c.match-take.octets.items
          c.take_pairs-rest.new.octets.items c.in-Some.character.now at.invariant behind w.in-Octet.ensures.0 (omega (arith, w.in-Octet.ensures.1, w.in-Octet.ensures.2)) (AreOctets-one w.in-Octet.octet (omega arith))
          (ap (λ (v : ArrayVec ℕ). v.items) w.octets-is ∙ w.push.ensures.items) c.take_pairs-rest.ensures
    ]
