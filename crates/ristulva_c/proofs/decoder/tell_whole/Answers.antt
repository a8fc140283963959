use Rattle.ristulva_c.proofs.Below.{◌≡◌, ℕ, false, None, Ok, Err, ap, subst, ◌∙◌, refl, length, code_of, Message, Outcome, Decoding, outcome_value}
use Rattle.bgp_frame.specs.declared.step.Step.TheVariants as step
use Rattle.ristulva_c.specs.declared.parts.ToldParts.{ToldParts}
use Rattle.ristulva_c.specs.declared.status.TheConstants.{OK}
use Rattle.ristulva_c.specs.Prelude.{Judging, IsTold, parts_at, said_by, verdict_told, parts_told}
use Rattle.ristulva_c.proofs.PartPlaces.{lie}
use Rattle.ristulva_c.proofs.Pulled.{not_more, shows, outcome_of, enough}
use Rattle.ristulva_c.proofs.decoder.tell_whole.Goals as goal

pub returns-in-More : goal.returns-in-More
returns-in-More c ctx gives =
    let d : Decoding = record { ctx = ctx; held = c.args.octets.now; stopped = false } in
    absurd (not_more d (outcome_value c.args.outcome.now) gives c.in-More.ensures)

pub returns-in-Frame : goal.returns-in-Frame
returns-in-Frame c ctx gives =
    let octets = c.args.octets.now in
    let d : Decoding = record { ctx = ctx; held = octets; stopped = false } in
    let o = outcome_value c.args.outcome.now in
    let f = c.in-Frame.frame in
    let m : Message = record { kind = f.kind; body = f.body.now } in
    let whole = shows d o gives c.are_octets.ensures (step.Frame f) c.in-Frame.ensures in
    let is = outcome_of d o gives (Ok m) whole.0 in
    let j : Judging = record { status = OK; before = c.args.out.now; behind = c.tell.new.out; info_before = c.args.info.now; info_behind = c.tell.new.info } in
    let told : (x : ToldParts) → c.parts_at-parts.result ≡ x → IsTold (verdict_told (code_of f.kind) f.len x o) o j = λ x same. record {
      status = enough (length (said_by o).info.items) (length c.args.info.now) c.tell.ensures.short c.requires;
      out = c.tell.ensures.out ∙ ap (λ (k : ℕ). verdict_told k f.len c.parts_at-parts.result o) c.code_of-kind.ensures ∙ ap (λ (p : ToldParts). verdict_told (code_of f.kind) f.len p o) same;
      info = c.tell.ensures.info;
    } in
    record {
      found = step.Frame f;
      shows = whole;
      outcome = is;
      status = refl;
      answers = subst (λ (x : Outcome). IsTold (verdict_told (code_of f.kind) f.len (parts_at f.kind f.body.now) x) x j) is (told (parts_at f.kind f.body.now) c.parts_at-parts.ensures);
      lie = λ p parts. lie octets f.len m p c.are_octets.ensures c.in-Frame.ensures.1 parts;
      message = c.put.ensures.copied;
    }

pub returns-in-Fault : goal.returns-in-Fault
returns-in-Fault c ctx gives =
    let octets = c.args.octets.now in
    let d : Decoding = record { ctx = ctx; held = octets; stopped = false } in
    let o = outcome_value c.args.outcome.now in
    let f = c.in-Fault.field-0 in
    let whole = shows d o gives c.are_octets.ensures (step.Fault f) c.in-Fault.ensures in
    let is = outcome_of d o gives (Err f) whole in
    let j : Judging = record { status = OK; before = c.args.out.now; behind = c.tell-in-Fault.new.out; info_before = c.args.info.now; info_behind = c.tell-in-Fault.new.info } in
    let told : (x : ToldParts) → c.no_parts.result ≡ x → IsTold (verdict_told 0 0 x o) o j = λ x same. record {
      status = enough (length (said_by o).info.items) (length c.args.info.now) c.tell-in-Fault.ensures.short c.requires;
      out = c.tell-in-Fault.ensures.out ∙ ap (λ (p : ToldParts). verdict_told 0 0 p o) same;
      info = c.tell-in-Fault.ensures.info;
    } in
    record {
      found = step.Fault f;
      shows = whole;
      outcome = is;
      status = refl;
      answers = subst (λ (x : Outcome). IsTold (verdict_told 0 0 (parts_told None) x) x j) is (told (parts_told None) c.no_parts.ensures);
      lie = tt;
      message = c.put.ensures.copied;
    }
