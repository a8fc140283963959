use Rattle.bgp_guard.proofs.Prelude.{◌-◌, Some, length, drop, sym, ap, ap₂, ◌∙◌, arith, length-drop, take_all, reading_of, said_in}
use Rattle.bgp_open.specs.Prelude.{Said}
use Rattle.bgp_terms.specs.Prelude.{Offered}
use Rattle.bgp_guard.proofs.handing.offers_of.Goals as goal

pub returns-in-Ok : goal.returns-in-Ok
returns-in-Ok c =
    let whole = c.args.whole.now in
    let same = take_all (length whole - 19) (drop 19 whole) (omega (arith, length-drop 19 whole)) in
    ap₂ (λ (said : Said) (offered : Offered). Some (record { said = said; offered = offered })) c.offers_in.ensures.peer c.offers_in.ensures.offered
    ∙ sym (ap said_in (ap reading_of (sym same) ∙ c.in-Ok.ensures.value))
