-- The values of borrowed marks, and the marks that an iterator has left.
use Rattle.std.specs.Prelude.{◌≡◌, ℕ, ◌∷◌, ◌-◌, List, [], ◌++◌, length, if◌then◌else◌}
use Rattle.bgp_attr.specs.Prelude.{found_attr_value, ruled, PlacedTlv, tlvs_left, rest_left}
use Rattle.bgp_attr.specs.declared.judged.Judged.{Judged}
use Rattle.bgp_attr.specs.declared.attr.Attr.{Attr}
use Rattle.bgp_attr.specs.declared.attr.Attr.TheVariants as attr
use Rattle.bgp_update.specs.declared.mark.RuledMark.{RuledMark}
use Rattle.bgp_update.specs.declared.mark.MarkView.{MarkView}
use Rattle.bgp_update.specs.declared.mark.MarkIter.{MarkIter}
use Rattle.bgp_update.specs.Marks.{Mark, judged_behind, marks_behind, cut_mark}
use Rattle.bgp_wire.specs.Prelude.{has_octet}

abbrev pub mark_value : MarkView → Mark
mark_value m = record { at = m.at; kind = m.kind; judged = found_attr_value m.judged }

-- for an attribute of these octets, with this value if it is kept
abbrev pub ruled_value : RuledMark → List ℕ → Attr → Mark
ruled_value m whole a = record { at = m.at; kind = m.kind; judged = ruled m.ruling whole a }

-- nothing is kept of an attribute that is cut off, so that any value will do
abbrev pub cut_value : RuledMark → Mark
cut_value m = ruled_value m [] attr.Atomic

-- the marks left, where these are the whole attributes that aren't judged yet
abbrev pub marks_with : MarkIter → List PlacedTlv → List Mark
marks_with it tlvs =
    marks_behind it.ctx it.has_nlri (has_octet it.seen) tlvs
    ++ (if it.is_done then [] else cut_mark (it.len - length (rest_left it.tlvs)) (rest_left it.tlvs))

-- the marks not yet returned
abbrev pub marks_left : MarkIter → List Mark
marks_left it = marks_with it (tlvs_left it.tlvs)

-- the judgement of this whole attribute where it is the next
abbrev pub judged_next : MarkIter → PlacedTlv → Judged
judged_next it p = judged_behind it.ctx it.has_nlri (has_octet it.seen) p.tlv

-- a step: the first mark left is that of an attribute of some octets and value, and is left no longer
pub record IsRuledNext (s : MarkIter) (m : RuledMark) (t : MarkIter) : Type 0 where
  pub whole : List ℕ
  pub value : Attr
  pub steps : marks_left s ≡ ruled_value m whole value ∷ marks_left t
