use Rattle.ristulva_c.proofs.Below.{length, refl, Ok, Err}
use Rattle.bgp_frame.specs.declared.step.Step.TheVariants as step
use Rattle.bgp_terms.specs.Prelude.{wide_terms}
use Rattle.bgp_wide.specs.Prelude.{wide_value}
use Rattle.ristulva_c.specs.declared.status.TheConstants.{OK}
use Rattle.ristulva_c.specs.Prelude.{Judging}
use Rattle.ristulva_c.proofs.JudgedIn.{judges}
use Rattle.ristulva_c.proofs.Streams.{fault_fits, not_more, outcome_of, shows}
use Rattle.ristulva_c.proofs.stream.tell_whole.Goals as goal

pub returns-in-More : goal.returns-in-More
returns-in-More c gives = absurd (not_more (wide_terms c.args.agreed.now) c.args.octets.now (wide_value c.args.outcome.now) gives c.in-More.ensures)

pub returns-in-Frame : goal.returns-in-Frame
returns-in-Frame c gives =
    let t = wide_terms c.args.agreed.now in
    let octets = c.args.octets.now in
    let o = wide_value c.args.outcome.now in
    let f = c.in-Frame.frame in
    let whole = shows t octets o gives c.are_octets.ensures (step.Frame f) c.in-Frame.ensures in
    let is = outcome_of t octets o gives (Ok _) whole.0 in
    let j : Judging = record { status = OK; before = c.args.out.now; behind = c.tell_message.new.out; info_before = c.args.info.now; info_behind = c.tell_message.new.info } in
    record {
      found = step.Frame f;
      shows = whole;
      outcome = is;
      status = refl;
      answers = judges t octets f.kind f.len f.body j c.are_octets.ensures c.in-Frame.ensures (c.tell_message.ensures t refl is);
      message = c.put.ensures.copied;
    }

pub returns-in-Fault : goal.returns-in-Fault
returns-in-Fault c gives =
    let t = wide_terms c.args.agreed.now in
    let octets = c.args.octets.now in
    let o = wide_value c.args.outcome.now in
    let f = c.in-Fault.fault in
    let whole = shows t octets o gives c.are_octets.ensures (step.Fault f) c.in-Fault.ensures in
    let is = outcome_of t octets o gives (Err f) whole in
    let told = c.tell_fault.ensures t.context in
    record {
      found = step.Fault f;
      shows = whole;
      outcome = is;
      status = refl;
      answers = record { status = fault_fits f (length c.args.info.now) c.requires; out = told.out; info = told.info };
      message = c.put.ensures.copied;
    }
