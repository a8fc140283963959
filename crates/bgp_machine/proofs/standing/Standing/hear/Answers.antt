-- The state is that of the arm.
use Rattle.bgp_machine.proofs.Prelude.{◌≡◌, Some, sym, ap, ◌∙◌, State, Standing, state_in, context_in}
use Rattle.bgp_machine.proofs.Hearings.{hears_in_open_sent, hears_in_open_confirm, hears_in_established}
use Rattle.bgp_machine.proofs.standing.Standing.hear.Goals as goal

pub returns-in-OpenSent : goal.returns-in-OpenSent
returns-in-OpenSent c =
    let heard = c.hear_in_open_sent in
    let arm : c.args.self.now.state ≡ State.OpenSent = ap (λ (x : Standing). x.state) (sym c.self.view_is) ∙ ap state_in c.in-OpenSent.is in
    hears_in_open_sent c.args.config.now c.args.self.now _ heard.result (heard.ensures.said c.args.self.now) arm (heard.ensures.does c.args.self.now) heard.ensures.suits

pub returns-in-OpenConfirm : goal.returns-in-OpenConfirm
returns-in-OpenConfirm c =
    let heard = c.hear_in_open_confirm in
    let arm : c.args.self.now.state ≡ State.OpenConfirm = ap (λ (x : Standing). x.state) (sym c.self.view_is) ∙ ap state_in c.in-OpenConfirm.is in
    hears_in_open_confirm c.args.config.now c.args.self.now _ heard.result (heard.ensures.said c.args.config.now c.args.self.now) arm
    (heard.ensures.does c.args.config.now c.args.self.now) heard.ensures.suits

pub returns-in-Established : goal.returns-in-Established
returns-in-Established c =
    let heard = c.hear_in_established in
    let arm : c.args.self.now.state ≡ State.Established = ap (λ (x : Standing). x.state) (sym c.self.view_is) ∙ ap state_in c.in-Established.is in
    let agreed : c.args.self.now.context ≡ Some c.in-Established.context = ap (λ (x : Standing). x.context) (sym c.self.view_is) ∙ ap context_in c.in-Established.is in
    hears_in_established c.args.config.now c.args.self.now _ heard.result (heard.ensures.said c.args.config.now c.args.self.now agreed) c.in-Established.context arm agreed
    (heard.ensures.does c.args.config.now c.args.self.now agreed) heard.ensures.suits heard.ensures.update heard.ensures.value
