use Rattle.bgp_wire.proofs.Std.{List, [], ◌∷◌, length, ℕ, Bool, true, not, Some, Ok, Err, refl, ap, ap₂, subst, ◌∙◌, err_from_is_err_and}
use Rattle.bgp_msg.specs.Prelude.{Decoding, IsNext, TakesMemory, is_reset}
use Rattle.bgp_msg.specs.declared.outcome.Outcome.{Outcome}
use Rattle.bgp_msg.specs.declared.outcome.Outcome.TheVariants.{Reset}
use Rattle.bgp_frame.specs.Prelude.{Waits}
use Rattle.bgp_msg.proofs.Pulls.{stopped_waits}
use Rattle.bgp_msg.proofs.decoder.Decoder.next.Goals as goal

pub returns-in_ok-outcome-in-Frame-clause-ok : goal.returns-in_ok-outcome-in-Frame-clause-ok
returns-in_ok-outcome-in-Frame-clause-ok c =
    let ctx = c.self.inside.ctx in
    let frame = c.in-Frame.frame in
    let o = c.in_ok-outcome-in-Frame.outcome in
    let says = c.in_ok-outcome-in-Frame.ensures.value in
    let now : Decoding = record { ctx = ctx; held = c.clear.new.self; stopped = c.is_reset-self-inside.result } in
    subst (λ (old : Decoding). IsNext old (Some (frame.len, o)) now) c.self.view_is (record {
      up = ap not c.if-self.false;
      what = Ok _;
      is_held = c.in-Frame.ensures.0;
      does = ap₂ (λ (k : ℕ) (p : Outcome). (k, p) ∷ []) (c.in-Frame.ensures.1 ∙ ap length c.in-Frame.ensures.0.octets) says;
      leaves = ap₂ (λ (h : List ℕ) (s : Bool). record { ctx = ctx; held = h; stopped = s }) c.clear.ensures (c.is_reset-self-inside.ensures ∙ ap is_reset says);
    })

pub returns-in_err-outcome-in-Frame-clause-memory : goal.returns-in_err-outcome-in-Frame-clause-memory
returns-in_err-outcome-in-Frame-clause-memory c =
    let p = err_from_is_err_and c.from_residual.result c.from_residual.ensures.1 in
    let frame = c.in-Frame.frame in
    rw p.1 (subst TakesMemory c.self.view_is (record {
      message = record { kind = frame.kind; body = frame.body.now };
      is_held = c.in-Frame.ensures.0;
      holds_lists = c.in_err-outcome-in-Frame.ensures.kind;
      goes_on = c.in_err-outcome-in-Frame.ensures.err;
    }))

pub returns-then-self-clause-ok : goal.returns-then-self-clause-ok
returns-then-self-clause-ok c = (subst (λ (d : Decoding). Waits d.held) c.self.view_is (stopped_waits c.self.inside.framer (c.self.invariant c.if-self.true)), refl)

pub returns-in-Fault-clause-ok : goal.returns-in-Fault-clause-ok
returns-in-Fault-clause-ok c =
    let ctx = c.self.inside.ctx in
    let now : Decoding = record { ctx = ctx; held = c.clear-in-Fault.new.self; stopped = true } in
    subst (λ (old : Decoding). IsNext old (Some (0, Reset c.notification.result)) now) c.self.view_is (record {
      up = ap not c.if-self.false;
      what = Err _;
      is_held = c.in-Fault.ensures;
      does = ap (λ n. (0, Reset n) ∷ []) c.notification.ensures;
      leaves = ap (λ (h : List ℕ). record { ctx = ctx; held = h; stopped = true }) c.clear-in-Fault.ensures;
    })
