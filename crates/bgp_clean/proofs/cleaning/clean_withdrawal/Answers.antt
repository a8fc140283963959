use Rattle.bgp_clean.proofs.Prelude.{ℕ, List, [], ◌++◌, sym, ap, ◌∙◌, append-nil, Kind, octets_of, routes_value, withdrawal_octets}
use Rattle.bgp_clean.proofs.Withdrawing.{withdrawal_is}
use Rattle.bgp_clean.proofs.cleaning.clean_withdrawal.Goals as goal

abbrev message : List ℕ → List ℕ
message b = octets_of (record { kind = Kind.Update; body = b })

pub returns-clause-value : goal.returns-clause-value
returns-clause-value g c =
    let old : List ℕ = g.O.Output.written c.args.out.now in
    let routes = routes_value c.args.view.now in
    c.in_ok-put_whole.ensures.ok
    ∙ ap (λ (x : List ℕ). old ++ x) (sym (append-nil (message (withdrawal_octets routes))))
    ∙ ap (λ (b : List ℕ). old ++ (message b ++ [])) (sym (withdrawal_is c.args.ctx.now routes))
