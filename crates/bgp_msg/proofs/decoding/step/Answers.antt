use Rattle.std.proofs.Common.{ℕ, drop, Option, Some, sym, subst}
use Rattle.bgp_frame.specs.declared.end.End.{End}
use Rattle.bgp_msg.specs.declared.outcome.Outcome.{Outcome}
use Rattle.bgp_msg.specs.Prelude.{IsTaken, Decodes}
use Rattle.bgp_msg.proofs.Decodings.{step_none, step_reset, step_on}
use Rattle.bgp_msg.proofs.decoding.step.Goals as goal

pub returns-in-None-clause-decodes : goal.returns-in-None-clause-decodes
returns-in-None-clause-decodes c =
    let old = c.args.decoder.now in
    let octets = c.args.octets.now in
    let n = c.in_ok-taken.taken in
    let new = c.pull_next.new.decoder in
    step_none old octets n c.args.outs.now.items c.requires.going new
    (subst (λ (r : Option (ℕ × Outcome)). IsTaken old octets n r new) c.in-None.is c.in_ok-taken.ensures).next

pub returns-then-resets-clause-decodes : goal.returns-then-resets-clause-decodes
returns-then-resets-clause-decodes c =
    let old = c.args.decoder.now in
    let octets = c.args.octets.now in
    let n = c.in_ok-taken.taken in
    let new = c.pull_next.new.decoder in
    subst (λ (e : End). Decodes old octets c.args.outs.now.items c.push.new.self.items (drop n octets) (Some e) new) (sym c.end_behind.ensures)
    (step_reset old octets n c.args.outs.now.items c.requires.going c.in-Some.len c.in-Some.outcome c.push.new.self.items new
    (subst (λ (r : Option (ℕ × Outcome)). IsTaken old octets n r new) c.in-Some.is c.in_ok-taken.ensures).next
    c.in_ok-push-in-Some.ensures.items (sym c.if-resets.ensures))

pub returns-else-resets-clause-decodes : goal.returns-else-resets-clause-decodes
returns-else-resets-clause-decodes c =
    let old = c.args.decoder.now in
    let octets = c.args.octets.now in
    let n = c.in_ok-taken.taken in
    let new = c.pull_next.new.decoder in
    step_on old octets n c.args.outs.now.items c.requires.going c.in-Some.len c.in-Some.outcome c.push.new.self.items new
    (subst (λ (r : Option (ℕ × Outcome)). IsTaken old octets n r new) c.in-Some.is c.in_ok-taken.ensures).next
    c.in_ok-push-in-Some.ensures.items (sym c.if-resets.ensures)
