use Rattle.bgp_engine.proofs.Prelude.{ℕ, take, sym, subst, take_rest, Appends}
use Rattle.bgp_engine.proofs.Written.{HasWritten-more, appends_count}
use Rattle.bgp_engine.proofs.output.put.Goals as goal

pub text-preserved : goal.text-preserved
text-preserved g c =
    let contents = g.W.Write.contents in
    let rest = c.text.rest.now in
    let n = c.unwrap_or-count.result in
    let wrote = subst (λ (k : ℕ). Appends (contents c.text.output) (contents c.write.new.self) (take k rest)) (sym c.unwrap_or-count.ensures)
    (appends_count (contents c.text.output) (contents c.write.new.self) c.write.result rest c.write.ensures.bytes) in
    rw (take_rest rest n) (HasWritten-more (contents c.args.output.now) (contents c.text.output) (contents c.write.new.self) c.args.text.now rest n c.text.invariant wrote)
