use Rattle.bgp_wire.proofs.Std.{false, List, [], arith, sym, ap, ◌∙◌, list_any}
use Rattle.bgp_update.specs.Prelude.{known_of, Mark, missing_of, SummaryValue, is_noted, attrs_from, attrs_of, is_opaque, kept_of, update_of}
use Rattle.bgp_update.proofs.KeptViews.{kept_known}
use Rattle.bgp_update.proofs.QuietMarks.{no_marks}
use Rattle.bgp_update.proofs.view.UpdateView.empty.Goals as goal

pub invariant_of-result : goal.invariant_of-result
unfolding attrs_from
invariant_of-result c =
    let none = no_marks (record { internal = false; as4 = false; ip4 = false; ip6 = false; hold = 0 }) false in
    record {
      short = omega arith;
      misses = c.none.ensures ∙ ap (missing_of (record { withdrawn = []; attributes = []; nlri = [] })) (sym none);
      known = kept_known c.new.result.kept [] (ap (λ (s : SummaryValue). s.kept) c.new.ensures.value) ∙ ap (λ (ms : List Mark). known_of (attrs_of (kept_of ms))) (sym none);
      others = ap (λ (s : SummaryValue). s.kept.others) c.new.ensures.value ∙ ap (λ (ms : List Mark). list_any is_opaque (kept_of ms)) (sym none);
      noted = ap (λ (s : SummaryValue). s.notes) c.new.ensures.value ∙ ap (λ (ms : List Mark). list_any (λ (m : Mark). is_noted m.judged) ms) (sym none);
    }

pub returns : goal.returns
returns c = ap (update_of (record { withdrawn = []; attributes = []; nlri = [] })) (no_marks (record { internal = false; as4 = false; ip4 = false; ip6 = false; hold = 0 }) false)
