use Rattle.bgp_clean.proofs.Prelude.{◌≡◌, ℕ, ◌+◌, ◌<◌, ◌≤◌, true, false, List, [], ◌∷◌, ◌++◌, length, take, sym, ap, ap₂, ◌∙◌, arith, length-append, Update, written_body, chosen_update, on_ok_weaker}
use Rattle.bgp_wire.proofs.Std.{take-append_seam}
use Rattle.bgp_clean.specs.Limits.{breaks}
use Rattle.bgp_clean.specs.steps.Parts.{part_update}
use Rattle.bgp_clean.specs.steps.Written.{updates_octets}
use Rattle.bgp_clean.proofs.Parting.{update_long, by_refusal, goes_on, stays_back}
use Rattle.bgp_clean.proofs.updates.announce.Goals as goal

pub returns-then-len-start-clause-ok : goal.returns-then-len-start-clause-ok
returns-then-len-start-clause-ok g c =
    let ctx = c.args.ctx.now in
    let l = c.args.limits.now in
    let part : Update = part_update c.args.part (chosen_update c.args.chosen.now) in
    let gone : Update = part_update c.args.gone (chosen_update c.args.chosen.now) in
    let old : List ℕ = g.O.Output.written c.args.out.now in
    let there = ap length c.in_ok-put_part.ensures.ok ∙ length-append old (updates_octets ctx (part ∷ [])) in
    let keeps : breaks l part ≡ false = sym c.breaks.ensures ∙ c.if-breaks.false in
    let fits : length (written_body ctx part) + l.room ≤ 4077 =
    omega (arith, there, update_long ctx part, c.len-start.ensures, c.len.ensures, c.from.ensures, c.saturating_sub-most.ensures, c.if-len-start.true) in
    c.in_ok-put_part.ensures.ok ∙ ap (λ (b : List ℕ). old ++ b) (by_refusal ctx l part gone false (goes_on ctx l part gone keeps fits))

pub returns-clause-ok : goal.returns-clause-ok
returns-clause-ok g c =
    let ctx = c.args.ctx.now in
    let l = c.args.limits.now in
    let part : Update = part_update c.args.part (chosen_update c.args.chosen.now) in
    let gone : Update = part_update c.args.gone (chosen_update c.args.chosen.now) in
    let old : List ℕ = g.O.Output.written c.args.out.now in
    let there = ap length c.in_ok-put_part.ensures.ok ∙ length-append old (updates_octets ctx (part ∷ [])) in
    let more : 4077 < length (written_body ctx part) + l.room =
    omega (arith, there, update_long ctx part, c.len-start.ensures, c.len.ensures, c.from.ensures, c.saturating_sub-most.ensures, c.if-len-start.false) in
    let back : g.O.Output.written c.truncate.new.self ≡ old =
    c.truncate.ensures ∙ ap₂ (λ (n : ℕ) (b : List ℕ). take n b) c.len-start.ensures c.in_ok-put_part.ensures.ok ∙ take-append_seam old (updates_octets ctx (part ∷ [])) in
    on_ok_weaker c.put_part-3.result
    (λ e. e ∙ ap₂ (λ (x y : List ℕ). x ++ y) back (by_refusal ctx l part gone true (stays_back ctx l part gone more)))
    c.put_part-3.ensures.ok
