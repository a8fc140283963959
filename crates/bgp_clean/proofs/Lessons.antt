-- What a receiver learns from the messages that replace an UPDATE: what the UPDATE says.
use Rattle.bgp_clean.proofs.Prelude.{◌≡◌, ℕ, Bool, true, false, ltb, List, [], ◌∷◌, ◌++◌, length, Option, Some, None, option_or, refl, ap, ap₂, ◌∙◌, append-nil, false≢true, or_parts, ltb-false, nil_from_length, arith}
use Rattle.bgp_clean.proofs.Prelude.{PrefixValue, MpReach, attrs_from, gone_ip4, gone_ip6, Routes, Update, Message, cleaned_update, unreach_of, withdrawal}
use Rattle.bgp_terms.specs.declared.refreshes.Refreshes.{Refreshes}
use Rattle.bgp_clean.proofs.Prelude.{Announced, Lesson, announced_lesson, announced_nlri, announced_reached, both, gone_lesson, gone_routes, has_any, lesson_by, lesson_of, nlri_part, nlri_routes, no_lesson, reached_part, reached_routes, taught_by}
use Rattle.bgp_clean.proofs.Dropped.{dropped-again}

-- ---- lessons in sequence

or-none : {A : Type 0} (o : Option A) → option_or o None ≡ o
or-none None = refl
or-none (Some x) = refl

pub both-none : (l : Lesson) → both l no_lesson ≡ l
both-none l = λ i. record {
  peer = or-none l.peer i;
  gone_ip4 = append-nil l.gone_ip4 i;
  gone_ip6 = append-nil l.gone_ip6 i;
  announced = append-nil l.announced i;
  ended = or-none l.ended i;
  said = or-none l.said i;
}

-- ---- routes that are withdrawn

pub unreach-gone : (ps : List PrefixValue) → (gone_ip4 (unreach_of ps) ≡ []) × (gone_ip6 (unreach_of ps) ≡ ps)
unreach-gone [] = (refl, refl)
unreach-gone (p ∷ ps) = (refl, refl)

abbrev routes : List PrefixValue → List PrefixValue → Routes
routes ip4 ip6 = record { ip4 = ip4; ip6 = ip6 }

-- a withdrawal withdraws its routes, and no others
pub withdrawal-gone : (r : Routes) → gone_routes (withdrawal r) ≡ r
unfolding attrs_from
withdrawal-gone r = ap₂ (λ (x y : List PrefixValue). routes (r.ip4 ++ x) y) (unreach-gone r.ip6).0 (unreach-gone r.ip6).1 ∙ ap (λ (x : List PrefixValue). routes x r.ip6) (append-nil r.ip4)

-- where there are no routes, there is nothing to learn
pub none-gone : (r : Routes) → has_any r ≡ false → gone_lesson r ≡ no_lesson
none-gone r e =
    let none = or_parts (ltb 0 (length r.ip4)) (ltb 0 (length r.ip6)) e in
    ap₂ (λ (x y : List PrefixValue). gone_lesson (routes x y))
    (nil_from_length r.ip4 (omega (arith, ltb-false 0 (length r.ip4) none.0))) (nil_from_length r.ip6 (omega (arith, ltb-false 0 (length r.ip6) none.1)))

taught-ended : (there refused : Bool) (a : Announced) → (taught_by there refused a).ended ≡ None
taught-ended true true a = refl
taught-ended true false a = refl
taught-ended false refused a = refl

-- an UPDATE by itself isn't an End-of-RIB
pub lesson-ended : (refuses : Update → Bool) (u : Update) → (lesson_of refuses u).ended ≡ None
lesson-ended refuses u =
    ap₂ (λ (x y : Option ℕ). option_or x y) (taught-ended (has_any (nlri_routes u)) (refuses (nlri_part u)) (announced_nlri u))
    (taught-ended (has_any (reached_routes u)) (refuses (reached_part u)) (announced_reached u))

abbrev pub with_reach : Update → Option MpReach → Update
with_reach u r = record u { attrs = record u.attrs { mp_reach = r } }

module _ (refuses : Update → Bool) where
  pub withdrawal-learned : (r : Routes) → lesson_of refuses (withdrawal r) ≡ gone_lesson r
  unfolding attrs_from
  withdrawal-learned r = ap (λ (x : Routes). both (gone_lesson x) no_lesson) (withdrawal-gone r) ∙ both-none (gone_lesson r)

  -- ---- routes that are announced

  pub nlri-learned : (u : Update) → has_any (nlri_routes u) ≡ true → refuses (nlri_part u) ≡ false → lesson_of refuses (nlri_part u) ≡ announced_lesson (announced_nlri u)
  nlri-learned u there keeps =
      ap₂ (λ (s t : Bool). both no_lesson (both (taught_by s t (announced_nlri u)) no_lesson)) there keeps
      ∙ ap (λ (l : Lesson). both no_lesson l) (both-none (announced_lesson (announced_nlri u)))

  -- their family is IPv4 or IPv6
  reached-by : (u : Update) (r : Option MpReach) → (let w : Update = with_reach u r in
      has_any (reached_routes w) ≡ true → refuses (reached_part w) ≡ false → lesson_of refuses (reached_part w) ≡ announced_lesson (announced_reached w))
  reached-by u None there keeps = absurd (false≢true there)
  reached-by u (Some (MpReach.Ip4 hop [])) there keeps = absurd (false≢true there)
  reached-by u (Some (MpReach.Ip4 hop (p ∷ ps))) there keeps =
      let w : Update = with_reach u (Some (MpReach.Ip4 hop (p ∷ ps))) in
      ap₂ (λ (s t : Bool). both no_lesson (both (taught_by s t (announced_reached w)) no_lesson)) there keeps
      ∙ ap (λ (l : Lesson). both no_lesson l) (both-none (announced_lesson (announced_reached w)))
  reached-by u (Some (MpReach.Ip6 hop link ps)) there keeps =
      let w : Update = with_reach u (Some (MpReach.Ip6 hop link ps)) in
      ap₂ (λ (s t : Bool). both no_lesson (both no_lesson (taught_by s t (announced_reached w)))) there keeps

  pub reached-learned : (u : Update) → has_any (reached_routes u) ≡ true → refuses (reached_part u) ≡ false → lesson_of refuses (reached_part u) ≡ announced_lesson (announced_reached u)
  reached-learned u there keeps = reached-by u u.attrs.mp_reach there keeps

-- ---- without the attributes that are left out, the same is learned

pub cleaned-learned : (offers : Refreshes) (drops : ℕ → Bool) (refuses : Update → Bool) (family : Option ℕ) (u : Update)
    → lesson_by offers drops refuses family (Message.Update (cleaned_update drops u)) ≡ lesson_by offers drops refuses family (Message.Update u)
cleaned-learned offers drops refuses family u = ap (λ (v : Update). record (lesson_of refuses v) { ended = family }) (dropped-again drops u)
