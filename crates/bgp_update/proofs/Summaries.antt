-- The summary of all marks, mark by mark.
use Rattle.bgp_wire.proofs.Std.{◌≡◌, ℕ, length, cond, Bool, true, false, ◌||◌, List, [], ◌∷◌, ◌++◌, Option, refl, sym, ap, ◌∙◌, list_any, option_or, flat_map-cons}
use Rattle.std.proofs.lemmas.List.{append-nil}
use Rattle.bgp_frame.specs.declared.notification.Notification.{Notification}
use Rattle.std.specs.Prelude.{◌-◌}
use Rattle.bgp_wire.specs.Prelude.{also, has_octet, none_of_them}
use Rattle.bgp_wire.specs.declared.octet_set.OctetSet.{OctetSet}
use Rattle.bgp_update.specs.declared.kept_view.KeptView.{KeptView}
use Rattle.bgp_open.specs.declared.context.Context.{Context}
use Rattle.bgp_attr.specs.Prelude.{PlacedTlv, is_recognised, tlvs_left, tlvs_of, rest_left}
use Rattle.bgp_attr.specs.declared.tlv_iter.TlvIter.{TlvIter}
use Rattle.bgp_attr.specs.declared.attr.Attr.{Attr}
use Rattle.bgp_attr.specs.declared.judged.Judged.{Judged}
use Rattle.bgp_attr.specs.declared.judged.Judged.TheVariants as judged
use Rattle.bgp_update.specs.Prelude.{Kept, kept_behind, Mark, cut_mark, judged_behind, field_marks, marks_ahead, marks_behind, placed_tlvs, saw, seen_by, kept_by, kept_of, reset_by, first_reset, withdraws, SummaryValue, is_noted, summary_behind, summary_of}
use Rattle.bgp_update.proofs.KeptViews.{or_false, kept_whole, kept_none, kept_append}
use Rattle.bgp_update.proofs.Options.{option_or-assoc, option_or-none}

pub kept_of-cons : (m : Mark) (ms : List Mark) → kept_of (m ∷ ms) ≡ kept_by m.judged ++ kept_of ms
kept_of-cons m ms = flat_map-cons (λ (n : Mark). kept_by n.judged) m ms

one_of : (m : Mark) → kept_of (m ∷ []) ≡ kept_by m.judged
one_of m = kept_of-cons m [] ∙ append-nil (kept_by m.judged)

or_one : (a b c : Bool) → ((a || (b || false)) || c) ≡ (a || (b || c))
or_one true b c = refl
or_one false true c = refl
or_one false false c = refl

module _ (m : Mark) (ms : List Mark) where
  reset_more : (r : Option Notification) → option_or (option_or r (first_reset (m ∷ []))) (first_reset ms) ≡ option_or r (first_reset (m ∷ ms))
  reset_more r =
      option_or-assoc r (first_reset (m ∷ [])) (first_reset ms) ∙ ap (λ (o : Option Notification). option_or r (option_or o (first_reset ms))) (option_or-none (reset_by m.judged))

  kept_more : (k : Kept) → kept_behind (kept_behind k (kept_of (m ∷ []))) (kept_of ms) ≡ kept_behind k (kept_of (m ∷ ms))
  kept_more k =
      kept_append k (kept_of (m ∷ [])) (kept_of ms)
      ∙ ap (kept_behind k) (ap (λ (kept : List Attr). kept ++ kept_of ms) (one_of m) ∙ sym (kept_of-cons m ms))

  pub summary_more : (s : SummaryValue) → summary_behind (summary_behind s (m ∷ [])) ms ≡ summary_behind s (m ∷ ms)
  summary_more s = λ i. record {
    reset = reset_more s.reset i;
    withdraws = or_one s.withdraws (withdraws m.judged) (list_any (λ (n : Mark). withdraws n.judged) ms) i;
    notes = or_one s.notes (is_noted m.judged) (list_any (λ (n : Mark). is_noted n.judged) ms) i;
    kept = kept_more s.kept i;
  }

-- one more mark, by how its attribute is judged
pub by_mark : (s : SummaryValue) (m : Mark) (j : Judged) → m.judged ≡ j → (reset : Option Notification) (withdrawn noted : Bool) (kept : Kept)
    → reset ≡ option_or s.reset (reset_by j) → withdrawn ≡ (s.withdraws || withdraws j) → noted ≡ (s.notes || is_noted j)
    → kept ≡ kept_behind s.kept (kept_by j)
    → record { reset = reset; withdraws = withdrawn; notes = noted; kept = kept } ≡ summary_behind s (m ∷ [])
by_mark s m j is reset withdrawn noted kept e f g h = λ i. record {
  reset = (e ∙ ap (λ (k : Judged). option_or s.reset (reset_by k)) (sym is) ∙ ap (option_or s.reset) (sym (option_or-none (reset_by m.judged)))) i;
  withdraws = (f ∙ ap (λ (k : Judged). s.withdraws || withdraws k) (sym is) ∙ ap (λ (t : Bool). s.withdraws || t) (sym (or_false (withdraws m.judged)))) i;
  notes = (g ∙ ap (λ (k : Judged). s.notes || is_noted k) (sym is) ∙ ap (λ (t : Bool). s.notes || t) (sym (or_false (is_noted m.judged)))) i;
  kept = (h ∙ ap (λ (k : Judged). kept_behind s.kept (kept_by k)) (sym is) ∙ ap (kept_behind s.kept) (sym (one_of m))) i;
}

-- for one that is kept
pub kept_mark : (s : SummaryValue) (m : Mark) (a : Attr) → m.judged ≡ judged.Keep a → record s { kept = kept_behind s.kept (a ∷ []) } ≡ summary_behind s (m ∷ [])
kept_mark s m a is = by_mark s m (judged.Keep a) is s.reset s.withdraws s.notes (kept_behind s.kept (a ∷ [])) (sym (option_or-none s.reset)) (sym (or_false s.withdraws)) (sym (or_false s.notes)) refl

pub no_more : (s : SummaryValue) → summary_behind s [] ≡ s
no_more s = λ i. record {
  reset = option_or-none s.reset i;
  withdraws = or_false s.withdraws i;
  notes = or_false s.notes i;
  kept = kept_none s.kept i;
}

-- all after none are those of the whole
pub summary_whole : (marks : List Mark) → summary_behind (summary_of []) marks ≡ summary_of marks
summary_whole marks = ap (λ (k : Kept). record (summary_of marks) { kept = k }) (kept_whole (kept_of marks))

pub summary_all : (s all : SummaryValue) (left : List Mark) → left ≡ [] → summary_behind s left ≡ all → s ≡ all
summary_all s all left none whole = sym (no_more s) ∙ ap (summary_behind s) (sym none) ∙ whole

pub summary_step : (s now all : SummaryValue) (m : Mark) (left later : List Mark) → now ≡ summary_behind s (m ∷ []) → left ≡ m ∷ later → summary_behind s left ≡ all → summary_behind now later ≡ all
summary_step s now all m left later e f whole =
    ap (λ (t : SummaryValue). summary_behind t later) e ∙ summary_more m later s ∙ ap (summary_behind s) (sym f) ∙ whole

-- ---- the marks of a field from where the loop is

-- the next attribute is judged after those types, and those after it after its type too
pub ahead_step : (ctx : Context) (nlri : Bool) (field : List ℕ) (seen now : ℕ → Bool) (p : PlacedTlv) (it later : TlvIter)
    → tlvs_left it ≡ p ∷ tlvs_left later → rest_left it ≡ rest_left later → now ≡ also p.tlv.kind seen
    → marks_ahead ctx nlri field seen it ≡ record { at = p.at; kind = p.tlv.kind; judged = judged_behind ctx nlri seen p.tlv } ∷ marks_ahead ctx nlri field now later
ahead_step ctx nlri field seen now p it later tlvs rest is =
    (λ i. marks_behind ctx nlri seen (tlvs i) ++ cut_mark (length field - length (rest i)) (rest i))
    ∙ ap (λ (set : ℕ → Bool). record { at = p.at; kind = p.tlv.kind; judged = judged_behind ctx nlri seen p.tlv } ∷ (marks_behind ctx nlri set (tlvs_left later) ++ cut_mark (length field - length (rest_left later)) (rest_left later))) (sym is)

-- after the last attribute, all that is left is what is cut off
pub ahead_none : (ctx : Context) (nlri : Bool) (field : List ℕ) (seen : ℕ → Bool) (it : TlvIter) → tlvs_left it ≡ []
    → marks_ahead ctx nlri field seen it ≡ cut_mark (length field - length (rest_left it)) (rest_left it)
ahead_none ctx nlri field seen it none = ap (λ (ps : List PlacedTlv). marks_behind ctx nlri seen ps ++ cut_mark (length field - length (rest_left it)) (rest_left it)) none

-- before the first, all are ahead
pub whole_ahead : (ctx : Context) (nlri : Bool) (field : List ℕ) (seen : ℕ → Bool) (it : TlvIter) → seen ≡ none_of_them → tlvs_left it ≡ placed_tlvs field → rest_left it ≡ (tlvs_of field).1
    → marks_ahead ctx nlri field seen it ≡ field_marks ctx nlri field
unfolding field_marks
whole_ahead ctx nlri field seen it none tlvs rest = λ i. marks_behind ctx nlri (none i) (tlvs i) ++ cut_mark (length field - length (rest i)) (rest i)

pub none_yet : (k : KeptView) (others : OctetSet) → saw k ≡ none_of_them → has_octet others ≡ none_of_them → seen_by k others ≡ none_of_them
none_yet k others e f = λ i kind. by kind (is_recognised kind) i
  where
    by : (kind : ℕ) (b : Bool) → cond b (saw k kind) (has_octet others kind) ≡ false
    by kind true = λ i. e i kind
    by kind false = λ i. f i kind
