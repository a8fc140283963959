use Rattle.ristulva_c.proofs.Below.{Option, subst}
use Rattle.bgp_frame.specs.declared.step.Step.TheVariants as step
use Rattle.bgp_paths.specs.declared.families.PathFamilies.{PathFamilies}
use Rattle.bgp_terms.specs.Prelude.{Agreed, wide_terms}
use Rattle.ristulva_c.specs.Paths.{IsWithoutPathsBy, WritesWithout, families_in}
use Rattle.ristulva_c.specs.Text.{Writing}
use Rattle.ristulva_c.proofs.paths.ristulva_without_paths.Goals as goal

pub returns-in-Frame : goal.returns-in-Frame
returns-in-Frame c =
    let w : Writing = record { status = c.write_without.result; before = c.args.buffer.now; behind = c.write_without.new.buffer; len_before = c.args.written.now; len_behind = c.write_without.new.written } in
    let frame = c.in-Frame.frame in
    let t = wide_terms c.in-Some.agreed in
    subst (λ (t : Option Agreed). IsWithoutPathsBy t (families_in c.args.terms.now) c.args.octets.now w) c.in-Some.ensures.value (record {
      found = step.Frame frame;
      shows = c.in-Frame.ensures;
      writes = subst (λ (f : PathFamilies). WritesWithout t f (step.Frame frame) w) c.families_in.ensures c.write_without.ensures;
    })
