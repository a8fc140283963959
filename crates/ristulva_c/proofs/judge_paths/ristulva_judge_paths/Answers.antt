use Rattle.ristulva_c.proofs.Below.{Option, refl, sym, subst, Context}
use Rattle.bgp_frame.specs.declared.step.Step.TheVariants as step
use Rattle.bgp_terms.specs.Prelude.{Agreed, wide_terms}
use Rattle.bgp_paths.specs.declared.families.PathFamilies.{PathFamilies}
use Rattle.ristulva_c.specs.Context.{context_of}
use Rattle.ristulva_c.specs.Judge.{Judging}
use Rattle.ristulva_c.specs.JudgePaths.{IsJudgedBy, is_identified}
use Rattle.ristulva_c.specs.Paths.{families_in}
use Rattle.ristulva_c.specs.steps.JudgePaths.{WithPaths}
use Rattle.ristulva_c.proofs.JudgedPaths.{judges_with}
use Rattle.ristulva_c.proofs.judge_paths.ristulva_judge_paths.Goals as goal

pub returns-in-Frame : goal.returns-in-Frame
returns-in-Frame c =
    let octets = c.args.octets.now in
    let f = families_in c.args.terms.now in
    let agreed = c.in-Some.agreed in
    let frame = c.in-Frame.frame in
    let j : Judging = record { status = c.tell_with_paths.result; before = c.args.out.now; behind = c.tell_with_paths.new.out; info_before = c.args.info.now; info_behind = c.tell_with_paths.new.info } in
    let told = subst (λ (g : PathFamilies). WithPaths (is_identified g frame.kind) (context_of c.args.terms.now.context) g agreed.refresh frame.kind frame.len frame.body j) c.families_in.ensures c.tell_with_paths.ensures in
    let answers = subst (λ (ctx : Context). WithPaths (is_identified f frame.kind) ctx f agreed.refresh frame.kind frame.len frame.body j) (sym c.in-Some.ensures.context) told in
    subst (λ (t : Option Agreed). IsJudgedBy t f octets j) c.in-Some.ensures.value (record {
      found = step.Frame frame;
      shows = c.in-Frame.ensures;
      answers = judges_with (is_identified f frame.kind) (wide_terms agreed) f octets frame.kind frame.len frame.body j refl c.are_octets.ensures c.in-Frame.ensures answers;
    })

pub returns-in-Fault : goal.returns-in-Fault
returns-in-Fault c =
    let j : Judging = record { status = c.tell_fault.result; before = c.args.out.now; behind = c.tell_fault.new.out; info_before = c.args.info.now; info_behind = c.tell_fault.new.info } in
    subst (λ (t : Option Agreed). IsJudgedBy t (families_in c.args.terms.now) c.args.octets.now j) c.in-Some.ensures.value (record {
      found = step.Fault c.in-Fault.fault;
      shows = c.in-Fault.ensures;
      answers = c.tell_fault.ensures c.in-Some.agreed.context;
    })
