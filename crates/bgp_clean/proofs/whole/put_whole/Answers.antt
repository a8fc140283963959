use Rattle.bgp_clean.proofs.Prelude.{ℕ, List, ◌++◌, ◌∙◌, refl, ap, Kind, header, take, drop, length, ◌+◌}
use Rattle.bgp_clean.specs.steps.Bodies.{kind_in, octets_in}
use Rattle.bgp_clean.proofs.Wholes.{header_laid}
use Rattle.bgp_clean.proofs.whole.put_whole.Goals as goal

pub returns-in-Ok-clause-ok : goal.returns-in-Ok-clause-ok
returns-in-Ok-clause-ok g c =
    let written = g.O.Output.written in
    let w : List ℕ = written c.put_body.new.out in
    let body : List ℕ = octets_in c.args.ctx.now c.args.body.now in
    header_laid (kind_in c.args.body.now) (written c.args.out.now) _ body refl c.len-start.result w (written c.put_header.new.out) c.len-start.ensures
    (c.in-Ok.ensures.ok ∙ ap (λ (x : List ℕ). x ++ body) c.in_ok-put.ensures.ok)
    (c.put_header.ensures ∙ ap (λ (k : Kind). take c.len-start.result w ++ (header k (length (drop c.len-start.result w)) ++ drop (c.len-start.result + 19) w)) c.kind_of.ensures)
