use Rattle.ristulva_c.proofs.Below.{ap, ◌∙◌, PathForm, one_segment}
use Rattle.bgp_attr.proofs.SegmentSteps.{no_segment}
use Rattle.ristulva_c.specs.Prelude.{is_set, between}
use Rattle.ristulva_c.proofs.SegmentSteps.{segments_behind}
use Rattle.ristulva_c.proofs.segments.ristulva_next_segment.Goals as goal

pub returns-in-None-clause-over : goal.returns-in-None-clause-over
returns-in-None-clause-over c over =
    let old = c.args.cursor.now in
    let form : PathForm = record { wide = is_set old.wide; confederations = is_set old.confederations } in
    no_segment form (between c.args.octets.now old.at old.end) (c.in-None.ensures ∙ ap (one_segment form) c.in-Some.ensures.lookup.0.2)

pub returns-in-Some-first_segment-clause-ok : goal.returns-in-Some-first_segment-clause-ok
returns-in-Some-first_segment-clause-ok c ok =
    let old = c.args.cursor.now in
    let form : PathForm = record { wide = is_set old.wide; confederations = is_set old.confederations } in
    let found = c.in-Some.ensures.lookup.0 in
    segments_behind form c.args.octets.now _ old _ _ (record { in_order = found.0; within = found.1 }) found.2 c.in-Some-first_segment.ensures
