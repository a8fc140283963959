use Rattle.bgp_clean.proofs.Prelude.{ℕ, true, false, List, ◌++◌, sym, ap, ◌∙◌, append-nil, on_ok_weaker, Kind, IPV6, ne_eqb, written_body, end_of}
use Rattle.bgp_frame.specs.Prelude.{octets_of}
use Rattle.std.proofs.lemmas.Bool.{eq-eqb}
use Rattle.bgp_clean.proofs.Parting.{end_body}
use Rattle.bgp_clean.proofs.updates.put_end.Goals as goal

abbrev message : List ℕ → List ℕ
message b = octets_of (record { kind = Kind.Update; body = b })

pub returns-then-family-eq-IPV6-clause-ok : goal.returns-then-family-eq-IPV6-clause-ok
returns-then-family-eq-IPV6-clause-ok g c =
    let ctx = c.args.ctx.now in
    on_ok_weaker c.put_whole.result
    (λ e. e ∙ ap (λ (b : List ℕ). g.O.Output.written c.args.out.now ++ message b) (end_body ctx c.args.family true (eq-eqb c.args.family IPV6 c.if-family-eq-IPV6.true))
    ∙ ap (λ (x : List ℕ). g.O.Output.written c.args.out.now ++ x) (sym (append-nil (message (written_body ctx (end_of c.args.family))))))
    c.put_whole.ensures.ok

pub returns-else-family-eq-IPV6-clause-ok : goal.returns-else-family-eq-IPV6-clause-ok
returns-else-family-eq-IPV6-clause-ok g c =
    let ctx = c.args.ctx.now in
    let put = c.put_whole-else-family-eq-IPV6 in
    on_ok_weaker put.result
    (λ e. e ∙ ap (λ (b : List ℕ). g.O.Output.written c.args.out.now ++ message b) (end_body ctx c.args.family false (ne_eqb c.args.family IPV6 c.if-family-eq-IPV6.false))
    ∙ ap (λ (x : List ℕ). g.O.Output.written c.args.out.now ++ x) (sym (append-nil (message (written_body ctx (end_of c.args.family))))))
    put.ensures.ok
