use Rattle.bgp_wire.proofs.Std.{◌≡◌, Bool, true, false, ◌||◌, Option, Some, None, refl, sym, ap, ap₂, ◌∙◌}
use Rattle.std.specs.Option.{option_or}
use Rattle.bgp_wire.specs.Prelude.{when}
use Rattle.bgp_attr.specs.Prelude.{segment_fault, path_has_zero}
use Rattle.bgp_attr.specs.declared.why.Why.{Why}
use Rattle.bgp_attr.specs.declared.why.Why.TheVariants as why
use Rattle.bgp_attr.proofs.SegmentSteps.{segment_rest, segment_shorter, no_segment_rest, zero_then, no_zero}
use Rattle.bgp_attr.proofs.segment.why_malformed.Goals as goal

-- by the fault, and by whether there is a zero
abbrev why_by : Option Why → Bool → Option Why
why_by fault zero = option_or fault (when zero why.AsZero)

no_more_faults : (fault : Option Why) → fault ≡ why_by fault false
no_more_faults None = refl
no_more_faults (Some w) = refl

pub path-preserved : goal.path-preserved
path-preserved c =
    let form = c.args.form in
    let later = c.in-Some.after.now in (
      segment_rest form c.path.rest.now _ later c.in-Some.ensures ∙ c.path.invariant.0,
      ap (λ (t : Bool). t || path_has_zero form later) (sym c.if-has_zero.false)
          ∙ zero_then form c.path.rest.now _ later c.in-Some.ensures false c.has_zero.result (path_has_zero form c.args.octets.now) c.has_zero.ensures c.path.invariant.1,
    )

pub path-smaller : goal.path-smaller
path-smaller c = segment_shorter c.args.form c.path.rest.now _ c.in-Some.after.now c.in-Some.ensures

pub returns-then-has_zero : goal.returns-then-has_zero
returns-then-has_zero c =
    let form = c.args.form in
    let later = c.in-Some.after.now in
    let zero : true ≡ path_has_zero form c.args.octets.now =
    ap (λ (t : Bool). t || path_has_zero form later) (sym c.if-has_zero.true)
    ∙ zero_then form c.path.rest.now _ later c.in-Some.ensures false c.has_zero.result (path_has_zero form c.args.octets.now) c.has_zero.ensures c.path.invariant.1 in
    c.why_behind_zero.ensures ∙ ap₂ why_by (ap (segment_fault form) (segment_rest form c.path.rest.now _ later c.in-Some.ensures ∙ c.path.invariant.0)) zero

pub returns : goal.returns
returns c =
    let form = c.args.form in
    c.segment_fault.ensures
    ∙ no_more_faults (segment_fault form c.path.rest.now)
    ∙ ap₂ why_by (ap (segment_fault form) (sym (no_segment_rest form c.path.rest.now c.in_default.ensures) ∙ c.path.invariant.0))
    (sym (no_zero form c.path.rest.now c.in_default.ensures) ∙ c.path.invariant.1)
