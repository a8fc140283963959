use Rattle.bgp_engine.proofs.Prelude.{◌≡◌, ◌++◌, ◌∙◌, ℕ, List, ap}
use Rattle.bgp_frame.specs.declared.kind.Kind.TheVariants as kinds
use Rattle.std.specs.Prelude.{Option}
use Rattle.bgp_engine.specs.Below.{Fault, out_of, string_bytes}
use Rattle.bgp_update.specs.Prelude.{parts_of}
use Rattle.bgp_paths.specs.Prelude.{as_received, outcome_with, path_numbers, place_between, shifted}
use Rattle.bgp_engine.specs.Explain.{identified_fault, where_chosen}
use Rattle.bgp_engine.specs.Identified.{used_numbers}
use Rattle.bgp_engine.proofs.Identifieds.{fault_same, writes_identified}
use Rattle.bgp_msg.specs.Prelude.{outcome_value}
use Rattle.bgp_engine.proofs.explaining.put_identified.Goals as goal

pub returns : goal.returns
returns g c =
    let body = c.args.frame.body.now in
    let f = c.args.families in
    let ctx = c.args.ctx.now in
    let octets = c.args.octets.now in
    let ids = path_numbers c.used_runs-runs.result in
    let received = shifted c.between-shifts.result in
    let o = outcome_value c.view_received-outcome.result in
    let printed = g.C.Choice.printed in
    let form = g.F.FieldForm.form in
    let places : (at : ℕ) → received at ≡ place_between (parts_of c.fill.new.self) (parts_of body) at =
    λ (at : ℕ). c.between-shifts.ensures at ∙ ap (λ (b : List ℕ). place_between (parts_of b) (parts_of body) at) c.as_slice.ensures in
    let comes : o ≡ as_received body (out_of ctx (record { kind = kinds.Update; body = c.fill.new.self })) =
    c.view_received-outcome.ensures ∙ ap (λ (b : List ℕ). as_received body (out_of ctx (record { kind = kinds.Update; body = b }))) c.as_slice-2.ensures in
    let fault = c.identified_fault-fault.ensures ∙ fault_same ctx f body c.fill.new.self _ received o c.as_slice-3.ensures c.fill.ensures.body places comes in
    writes_identified (where_chosen printed (form.identified ctx f octets (identified_fault ctx f body (outcome_with ctx f body)))) f ctx (string_bytes c.args.text.now) (string_bytes c.put_chosen.new.text) c.args.place c.args.frame.len body c.fill.new.self
    ids received o c.class_of.result
    c.fill.ensures.body
    (c.used_runs-runs.ensures ∙ ap (used_numbers ctx.ip4) c.path_runs.ensures.numbers)
    places comes
    (c.in_ok-put_chosen.ensures
    ∙ ap (λ (x : Option Fault). string_bytes c.args.text.now ++ where_chosen printed (form.identified ctx f octets x) ids received c.args.place c.args.frame.len o) fault)
    c.class_of.ensures
