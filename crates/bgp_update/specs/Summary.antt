-- The summary of all marks of a field: steps of the verdict, which private functions cite.
use Rattle.std.specs.Prelude.{◌≡◌, ℕ, ◌-◌, Bool, true, false, ◌||◌, List, [], ◌∷◌, ◌++◌, length, Option, option_map, if◌then◌else◌}
use Rattle.std.specs.List.{list_any}
use Rattle.std.specs.Option.{option_or}
use Rattle.bgp_frame.specs.declared.notification.Notification.{Notification}
use Rattle.bgp_frame.specs.Prelude.{notification_of_view}
use Rattle.bgp_open.specs.declared.context.Context.{Context}
use Rattle.bgp_wire.specs.declared.octet_set.OctetSet.{OctetSet}
use Rattle.bgp_wire.specs.Prelude.{has_octet}
use Rattle.bgp_attr.specs.Prelude.{is_recognised, tlvs_left, rest_left}
use Rattle.bgp_attr.specs.declared.tlv_iter.TlvIter.{TlvIter}
use Rattle.bgp_attr.specs.declared.judged.Judged.{Judged}
use Rattle.bgp_attr.specs.declared.judged.Judged.TheVariants as judged
use Rattle.bgp_update.specs.declared.kept_view.KeptView.{KeptView}
use Rattle.bgp_update.specs.declared.summary.Summary.{Summary}
use Rattle.bgp_update.specs.KeptView.{Kept, saw, kept_value, kept_in, kept_behind}
use Rattle.bgp_update.specs.Marks.{Mark, marks_behind, cut_mark}
use Rattle.bgp_update.specs.Taken.{kept_of}
use Rattle.bgp_update.specs.Verdict.{first_reset, withdraws}

-- it has a note
abbrev pub is_noted : Judged → Bool
is_noted (judged.Discard w) = true
is_noted (judged.Withdraw w) = true
is_noted _ = false

pub record SummaryValue : Type 0 where
  pub reset : Option Notification
  pub withdraws : Bool
  pub notes : Bool
  pub kept : Kept

abbrev pub summary_value : Summary → SummaryValue
summary_value s = record {
  reset = option_map notification_of_view s.reset;
  withdraws = s.withdraws;
  notes = s.notes;
  kept = kept_value s.kept;
}

-- with more marks after those summarised
abbrev pub summary_behind : SummaryValue → List Mark → SummaryValue
summary_behind s marks = record {
  reset = option_or s.reset (first_reset marks);
  withdraws = s.withdraws || list_any (λ m. withdraws m.judged) marks;
  notes = s.notes || list_any (λ m. is_noted m.judged) marks;
  kept = kept_behind s.kept (kept_of marks);
}

-- with one more attribute, judged so
abbrev pub Adds : Summary → Judged → Summary → Type 0
Adds s judged t = (m : Mark) → m.judged ≡ judged → summary_value t ≡ summary_behind (summary_value s) (m ∷ [])

-- the types that were seen: those that are recognised, and others
abbrev pub seen_by : KeptView → OctetSet → ℕ → Bool
seen_by k others = λ kind. if is_recognised kind then saw k kind else has_octet others kind

-- the marks of a field from where the loop is, after attributes of these types
abbrev pub marks_ahead : Context → Bool → List ℕ → (ℕ → Bool) → TlvIter → List Mark
marks_ahead ctx nlri field seen it = marks_behind ctx nlri seen (tlvs_left it) ++ cut_mark (length field - length (rest_left it)) (rest_left it)

abbrev pub summary_of : List Mark → SummaryValue
summary_of marks = record {
  reset = first_reset marks;
  withdraws = list_any (λ m. withdraws m.judged) marks;
  notes = list_any (λ m. is_noted m.judged) marks;
  kept = kept_in (kept_of marks);
}
