-- A mark says that an attribute is repeated exactly where one of its type precedes it.
use Rattle.bgp_wire.proofs.Std.{◌≡◌, ℕ, ◌-◌, Bool, true, false, ◌&&◌, ◌||◌, nat_lt, eqb, List, [], ◌∷◌, ◌++◌, length, refl, sym, ap, ◌∙◌, arith, if◌then◌else◌}
use Rattle.std.proofs.lemmas.List.{append_assoc}
use Rattle.bgp_wire.specs.Prelude.{also, none_of_them}
use Rattle.bgp_open.specs.declared.context.Context.{Context}
use Rattle.bgp_attr.specs.declared.judged.Judged.{Judged}
use Rattle.bgp_attr.specs.Prelude.{judgement, PlacedTlv, tlvs_of}
use Rattle.bgp_attr.specs.declared.judged.Judged.TheVariants as judged
use Rattle.bgp_attr.specs.declared.why.Why.TheVariants as why
use Rattle.bgp_attr.proofs.EachType.{not_repeated}
use Rattle.bgp_update.specs.Prelude.{stands_in, IsRepeated, IsMarkBehind, HasMarkBehind, Mark, malformed, carries_routes, repeated, cut, cut_kind, placed_tlvs, marks_behind, cut_mark, field_marks}
use Rattle.bgp_update.proofs.Lists.{eqb-swap}
use Rattle.bgp_update.proofs.MarkTypes.{or_past}

-- ---- the types seen after some attributes

abbrev seen_behind : (ℕ → Bool) → List PlacedTlv → ℕ → Bool
seen_behind seen [] = seen
seen_behind seen (p ∷ ps) = seen_behind (also p.tlv.kind seen) ps

or_none : (b : Bool) → b ≡ (b || false)
or_none true = refl
or_none false = refl

seen_where : (seen : ℕ → Bool) (ps : List PlacedTlv) (kind : ℕ) → seen_behind seen ps kind ≡ (seen kind || stands_in kind ps)
seen_where seen [] kind = or_none (seen kind)
seen_where seen (p ∷ ps) kind =
    seen_where (also p.tlv.kind seen) ps kind
    ∙ ap (λ (b : Bool). (b || seen kind) || stands_in kind ps) (eqb-swap kind p.tlv.kind)
    ∙ or_past (eqb p.tlv.kind kind) (seen kind) (stands_in kind ps)

-- ---- its mark

only_by : (seen routes : Bool) (j : Judged) → (IsRepeated j → ⊥) → IsRepeated (if seen then (if routes then judged.Reset malformed else judged.Discard why.Repeated) else j)
    → (seen ≡ true) × (routes ≡ false)
only_by true true j first e = absurd cc
only_by true false j first e = (refl, refl)
only_by false routes j first e = absurd (first e)

module _ (ctx : Context) (has_nlri : Bool) where
  abbrev mark_of : (ℕ → Bool) → PlacedTlv → Mark
  mark_of seen p = record { at = p.at; kind = p.tlv.kind; judged = if seen p.tlv.kind then repeated p.tlv.kind else judgement ctx has_nlri p.tlv }

  record HasMark (seen : ℕ → Bool) (before : List PlacedTlv) (p : PlacedTlv) (later : List PlacedTlv) : Type 0 where
    earlier : List Mark
    rest : List Mark
    in_order : marks_behind ctx has_nlri seen (before ++ p ∷ later) ≡ earlier ++ mark_of (seen_behind seen before) p ∷ rest
    place : length earlier ≡ length before

  has_mark : (seen : ℕ → Bool) (before : List PlacedTlv) (p : PlacedTlv) (later : List PlacedTlv) → HasMark seen before p later
  has_mark seen [] p later = record { earlier = []; rest = marks_behind ctx has_nlri (also p.tlv.kind seen) later; in_order = refl; place = refl }
  has_mark seen (q ∷ before) p later =
      let behind = has_mark (also q.tlv.kind seen) before p later in
      record {
        earlier = mark_of seen q ∷ behind.earlier;
        rest = behind.rest;
        in_order = ap (λ (ms : List Mark). mark_of seen q ∷ ms) behind.in_order;
        place = omega (arith, behind.place);
      }

  module _ (before : List PlacedTlv) (p : PlacedTlv) where
    abbrev mark : Mark
    mark = mark_of (seen_behind none_of_them before) p

    abbrev answer : Bool → Judged
    answer seen = if seen then repeated p.tlv.kind else judgement ctx has_nlri p.tlv

    judged_so : mark.judged ≡ answer (stands_in p.tlv.kind before)
    judged_so = ap answer (seen_where none_of_them before p.tlv.kind)

    answers : (routes : Bool) → stands_in p.tlv.kind before ≡ true → carries_routes p.tlv.kind ≡ routes → mark.judged ≡ (if routes then judged.Reset malformed else judged.Discard why.Repeated)
    answers routes stands is = judged_so ∙ ap answer stands ∙ ap (λ (b : Bool). if b then judged.Reset malformed else judged.Discard why.Repeated) is

    says : IsMarkBehind before p mark
    says = record {
      at = refl;
      kind = refl;
      repeated = answers false;
      only = λ is. only_by (stands_in p.tlv.kind before) (carries_routes p.tlv.kind) (judgement ctx has_nlri p.tlv) (not_repeated ctx has_nlri p.tlv) (sym judged_so ∙ is);
      routes = answers true;
    }

  pub marked : (field : List ℕ) (before later : List PlacedTlv) (p : PlacedTlv) → placed_tlvs field ≡ before ++ p ∷ later → HasMarkBehind ctx has_nlri field before p
  unfolding field_marks
  marked field before later p is =
      let found = has_mark none_of_them before p later in
      let last : List Mark = cut_mark (length field - length (tlvs_of field).1) (tlvs_of field).1 in
      record {
        earlier = found.earlier;
        mark = mark before p;
        later = found.rest ++ last;
        in_order = ap (λ (ps : List PlacedTlv). marks_behind ctx has_nlri none_of_them ps ++ last) is ∙ ap (λ (ms : List Mark). ms ++ last) found.in_order ∙ append_assoc found.earlier (mark before p ∷ found.rest) last;
        place = found.place;
        says = says before p;
      }

-- ---- an attribute that is cut off

cut_by : (b : Bool) → IsRepeated (if b then judged.Reset malformed else judged.Withdraw why.Cut) → ⊥
cut_by true e = absurd cc
cut_by false e = absurd cc

pub cut_not_repeated : (rest : List ℕ) → IsRepeated (cut rest) → ⊥
cut_not_repeated rest = cut_by (nat_lt 1 (length rest) && carries_routes (cut_kind rest))
