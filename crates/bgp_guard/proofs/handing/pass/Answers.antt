use Rattle.bgp_guard.proofs.Prelude.{ℕ, List, length, arith, Result, Ok, Err, sym, ap, subst, ◌∙◌, has_octet, message_in, Agreed, WideMessage, octets_handed_in, option_map, spoken_of, refusal, Answers, CameBy}
use Rattle.bgp_guard.proofs.Prelude.{IsPassedOn, terms_in, done, said_as, sight_with}
use Rattle.bgp_terms.specs.Prelude.{wide_terms}
use Rattle.bgp_guard.proofs.Passed.{passed_page, stopped}
use Rattle.bgp_guard.proofs.Sights.{with_limits, cleans_by}
use Rattle.bgp_guard.proofs.handing.pass.Goals as goal

pub hand_on-requires-clause-least : goal.hand_on-requires-clause-least
hand_on-requires-clause-least c =
    (passed_page (wide_terms c.terms_in-agreed.result) (has_octet c.args.rules.now.drops) (refusal c.args.rules.now c.terms_in-agreed.result.context (option_map spoken_of c.args.this.now.offers)) (message_in c.args.frame) c.args.whole.now c.new-page.result c.clean_in.new.out c.as_slice.result.now
    c.in-Ok-HandedOn.field-0 c.requires.octets c.requires.framed c.new-page.ensures c.in-Ok-HandedOn.field-0-is c.as_slice.ensures (with_limits c.args.rules.now (wide_terms c.terms_in-agreed.result) _ _ _ _ _ _ c.limits_in.ensures c.in-Ok-HandedOn.ensures.value)).least

pub returns-in-Ok-HandedOn-clause-after : goal.returns-in-Ok-HandedOn-clause-after
returns-in-Ok-HandedOn-clause-after c =
    let terms = wide_terms c.terms_in-agreed.result in
    let m = message_in c.args.frame in
    let p = passed_page terms (has_octet c.args.rules.now.drops) (refusal c.args.rules.now terms.context (option_map spoken_of c.args.this.now.offers)) m c.args.whole.now c.new-page.result c.clean_in.new.out c.as_slice.result.now
    c.in-Ok-HandedOn.field-0 c.requires.octets c.requires.framed c.new-page.ensures c.in-Ok-HandedOn.field-0-is c.as_slice.ensures (with_limits c.args.rules.now (wide_terms c.terms_in-agreed.result) _ _ _ _ _ _ c.limits_in.ensures c.in-Ok-HandedOn.ensures.value) in
    λ h k.
    let s = sight_with h k c.args.stage.now c.args.this.now c.args.other.now in
    c.hand_on.ensures.after h k p.messages (p.written ∙ ap (λ (x : Agreed). octets_handed_in x p.messages) c.terms_in-agreed.ensures) p.read
    ∙ sym (ap (done c.args.silent s m.kind) (cleans_by c.args.rules.now s m terms (Ok p.messages) c.terms_in-agreed.ensures p.is))

pub returns-in-Ok-HandedOn-clause-told : goal.returns-in-Ok-HandedOn-clause-told
returns-in-Ok-HandedOn-clause-told c =
    let terms = wide_terms c.terms_in-agreed.result in
    let m = message_in c.args.frame in
    let p = passed_page terms (has_octet c.args.rules.now.drops) (refusal c.args.rules.now terms.context (option_map spoken_of c.args.this.now.offers)) m c.args.whole.now c.new-page.result c.clean_in.new.out c.as_slice.result.now
    c.in-Ok-HandedOn.field-0 c.requires.octets c.requires.framed c.new-page.ensures c.in-Ok-HandedOn.field-0-is c.as_slice.ensures (with_limits c.args.rules.now (wide_terms c.terms_in-agreed.result) _ _ _ _ _ _ c.limits_in.ensures c.in-Ok-HandedOn.ensures.value) in
    λ h k.
    let s = sight_with h k c.args.stage.now c.args.this.now c.args.other.now in
    subst (λ (r : Result (List WideMessage) Answers). CameBy c.args.silent s m r c.hand_on.result) (sym (cleans_by c.args.rules.now s m terms (Ok p.messages) c.terms_in-agreed.ensures p.is))
    (subst (λ (b : List ℕ). IsPassedOn (terms_in s) m.kind b (said_as c.args.silent m.kind p.messages) c.hand_on.result) c.requires.framed.octets
    (c.hand_on.ensures.told (terms_in s) p.messages (p.written ∙ ap (λ (x : Agreed). octets_handed_in x p.messages) c.terms_in-agreed.ensures) p.read))

pub returns-in-Ok-Ends-clause-after : goal.returns-in-Ok-Ends-clause-after
returns-in-Ok-Ends-clause-after c =
    let terms = wide_terms c.terms_in-agreed.result in
    let m = message_in c.args.frame in
    let p = stopped terms (has_octet c.args.rules.now.drops) (refusal c.args.rules.now terms.context (option_map spoken_of c.args.this.now.offers)) m c.new-page.result c.clean_in.new.out c.in-Ok-Ends.field-0 c.in-Ok-Ends.field-0-0 c.in-Ok-Ends.field-0-is (with_limits c.args.rules.now (wide_terms c.terms_in-agreed.result) _ _ _ _ _ _ c.limits_in.ensures c.in-Ok-Ends.ensures.value) in
    λ h k.
    let s = sight_with h k c.args.stage.now c.args.this.now c.args.other.now in
    c.refuse.ensures.after h k ∙ sym (ap (done c.args.silent s m.kind) (cleans_by c.args.rules.now s m terms (Err p.0) c.terms_in-agreed.ensures p.1))

pub returns-in-Ok-Ends-clause-told : goal.returns-in-Ok-Ends-clause-told
returns-in-Ok-Ends-clause-told c =
    let terms = wide_terms c.terms_in-agreed.result in
    let m = message_in c.args.frame in
    let p = stopped terms (has_octet c.args.rules.now.drops) (refusal c.args.rules.now terms.context (option_map spoken_of c.args.this.now.offers)) m c.new-page.result c.clean_in.new.out c.in-Ok-Ends.field-0 c.in-Ok-Ends.field-0-0 c.in-Ok-Ends.field-0-is (with_limits c.args.rules.now (wide_terms c.terms_in-agreed.result) _ _ _ _ _ _ c.limits_in.ensures c.in-Ok-Ends.ensures.value) in
    λ h k.
    let s = sight_with h k c.args.stage.now c.args.this.now c.args.other.now in
    subst (λ (r : Result (List WideMessage) Answers). CameBy c.args.silent s m r c.refuse.result) (sym (cleans_by c.args.rules.now s m terms (Err p.0) c.terms_in-agreed.ensures p.1)) c.refuse.ensures.told

pub hand_on-requires-clause-most : goal.hand_on-requires-clause-most
hand_on-requires-clause-most c = omega (arith, c.count-len.ensures.bound, c.count-len.ensures.value, ap length c.as_slice.ensures)
