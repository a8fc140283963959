use Rattle.ristulva_c.proofs.Below.{Option, sym, subst, Context}
use Rattle.bgp_frame.specs.declared.step.Step.TheVariants as step
use Rattle.bgp_terms.specs.Prelude.{Agreed, wide_terms}
use Rattle.ristulva_c.specs.Judge.{Judging}
use Rattle.ristulva_c.specs.JudgeIn.{IsJudgedBy}
use Rattle.ristulva_c.specs.steps.JudgeIn.{FrameAnswers}
use Rattle.ristulva_c.proofs.JudgedIn.{judges}
use Rattle.ristulva_c.proofs.judge_in.ristulva_judge_in.Goals as goal

pub returns-in-Frame : goal.returns-in-Frame
returns-in-Frame c =
    let octets = c.args.octets.now in
    let agreed = c.in-Some.agreed in
    let frame = c.in-Frame.frame in
    let j : Judging = record { status = c.tell_any.result; before = c.args.out.now; behind = c.tell_any.new.out; info_before = c.args.info.now; info_behind = c.tell_any.new.info } in
    let answers = subst (λ (ctx : Context). FrameAnswers ctx agreed.refresh frame.kind frame.len frame.body j) (sym c.in-Some.ensures.context) c.tell_any.ensures in
    subst (λ (t : Option Agreed). IsJudgedBy t octets j) c.in-Some.ensures.value (record {
      found = step.Frame frame;
      shows = c.in-Frame.ensures;
      answers = judges (wide_terms agreed) octets frame.kind frame.len frame.body j c.are_octets.ensures c.in-Frame.ensures answers;
    })

pub returns-in-Fault : goal.returns-in-Fault
returns-in-Fault c =
    let j : Judging = record { status = c.tell_fault.result; before = c.args.out.now; behind = c.tell_fault.new.out; info_before = c.args.info.now; info_behind = c.tell_fault.new.info } in
    subst (λ (t : Option Agreed). IsJudgedBy t c.args.octets.now j) c.in-Some.ensures.value (record {
      found = step.Fault c.in-Fault.fault;
      shows = c.in-Fault.ensures;
      answers = c.tell_fault.ensures c.in-Some.agreed.context;
    })
