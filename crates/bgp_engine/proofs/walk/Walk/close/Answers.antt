use Rattle.bgp_engine.proofs.Prelude.{◌++◌, List, ℕ, ap, length, subst, sym, ◌∙◌, err_from_is_err_and, is_some, append-nil, IsOver, end_by}
use Rattle.bgp_engine.proofs.Walks.{closes, none_wait, some_closing}
use Rattle.bgp_engine.proofs.walk.Walk.close.Goals as goal

pub returns-in_err-last : goal.returns-in_err-last
returns-in_err-last g c =
    let p = err_from_is_err_and c.from_residual.result c.from_residual.ensures.1 in
    rw (p.1, p.2) (some_closing _ _ _ c.requires.ready)

pub returns : goal.returns
returns g c =
    let w = c.args.self.now in
    let held = w.framer.octets in
    let rules = g.P.Page.rules w.page in
    let over = subst (λ o. IsOver (end_by o (length held))) c.requires.ended (c.requires.ready.over (ap is_some c.requires.ended)) in
    let none = none_wait rules held c.args.end over in
    let told = g.P.Page.told w.page in
    let all = ap (λ (x : List ℕ). told ++ x) (sym (append-nil (rules.last (record w.tally { end = c.args.end }))) ∙ ap (λ (x : List ℕ). rules.last (record w.tally { end = c.args.end }) ++ x) (sym none)) in
    closes _ c.args.end _ _ _ c.requires.ready (ap (λ o. end_by o (length held)) c.requires.ended) c.answer.ensures.kind
    (c.in_ok-last.ensures.writes ∙ all) (rw (sym c.last.ensures.rules) c.answer.ensures.value)
