use Rattle.bgp_engine.proofs.Prelude.{◌≡◌, ◌++◌, List, ℕ, ap, length, sym, ◌∙◌, append_assoc, err_from_is_err_and, End, end_by}
use Rattle.bgp_engine.proofs.Walks.{closes, some_closing}
use Rattle.bgp_engine.proofs.walk.Walk.close_waiting.Goals as goal

pub returns-in_err-last : goal.returns-in_err-last
returns-in_err-last g c =
    let p = err_from_is_err_and c.from_residual.result c.from_residual.ensures.1 in
    rw (p.1, p.2) (some_closing _ _ _ c.requires.ready)

pub returns-in_err-rest : goal.returns-in_err-rest
returns-in_err-rest g c =
    let p = err_from_is_err_and c.from_residual-in_err-rest.result c.from_residual-in_err-rest.ensures.1 in
    rw (p.1, p.2) (some_closing _ _ _ c.requires.ready)

pub returns : goal.returns
returns g c =
    let w = c.args.self.now in
    let rules = g.P.Page.rules w.page in
    let told = g.P.Page.told in
    let rest : told c.rest.new.self ≡ told c.last.new.self ++ rules.rest w.framer.octets = rw (sym c.last.ensures.rules, sym c.octets.ensures) c.in_ok-rest.ensures.writes in
    closes _ (End.Wait c.held.result) _ _ _ c.requires.ready (ap (λ o. end_by o (length w.framer.octets)) c.requires.ended ∙ ap End.Wait (sym c.held.ensures.value)) c.answer.ensures.kind
    (rest ∙ ap (λ (x : List ℕ). x ++ rules.rest w.framer.octets) c.in_ok-last.ensures.writes ∙ append_assoc (told w.page) _ (rules.rest w.framer.octets))
    (rw (sym c.last.ensures.rules, sym c.rest.ensures.rules) c.answer.ensures.value)
