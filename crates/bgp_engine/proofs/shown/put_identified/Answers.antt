use Rattle.bgp_engine.proofs.Prelude.{◌∙◌, ℕ, List, ap}
use Rattle.bgp_frame.specs.declared.kind.Kind.TheVariants as kinds
use Rattle.bgp_engine.specs.Below.{out_of, string_bytes}
use Rattle.bgp_update.specs.Prelude.{parts_of}
use Rattle.bgp_paths.specs.Prelude.{as_received, path_numbers, place_between, shifted}
use Rattle.bgp_engine.specs.Identified.{used_numbers}
use Rattle.bgp_engine.proofs.Identifieds.{writes_identified}
use Rattle.bgp_msg.specs.Prelude.{outcome_value}
use Rattle.bgp_engine.proofs.shown.put_identified.Goals as goal

pub returns : goal.returns
returns g c =
    let body = c.args.frame.body.now in
    let ctx = c.args.ctx.now in
    writes_identified g.F.Form.shown_paths c.args.families ctx (string_bytes c.args.text.now) (string_bytes c.put_paths.new.text) c.args.place c.args.frame.len body c.fill.new.self
    (path_numbers c.used_runs-runs.result) (shifted c.between-shifts.result) (outcome_value c.view_received-outcome.result) c.class_of.result
    c.fill.ensures.body
    (c.used_runs-runs.ensures ∙ ap (used_numbers ctx.ip4) c.path_runs.ensures.numbers)
    (λ (at : ℕ). c.between-shifts.ensures at ∙ ap (λ (b : List ℕ). place_between (parts_of b) (parts_of body) at) c.as_slice.ensures)
    (c.view_received-outcome.ensures ∙ ap (λ (b : List ℕ). as_received body (out_of ctx (record { kind = kinds.Update; body = b }))) c.as_slice-2.ensures)
    c.in_ok-put_paths.ensures c.class_of.ensures
