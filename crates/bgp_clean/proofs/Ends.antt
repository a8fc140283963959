-- Which UPDATEs are an End-of-RIB: what is accepted from one, and what is read where one was written.
use Rattle.bgp_clean.proofs.Prelude.{◌≡◌, ℕ, ◌+◌, ◌≤◌, Bool, true, false, not, ◌&&◌, ◌||◌, cond, eqb, List, [], ◌∷◌, ◌++◌, length, Option, Some, None, refl}
use Rattle.bgp_clean.proofs.Prelude.{sym, ap, subst, ◌∙◌, arith, flat_map, list_any, AllByRecursion, both_ways, or_parts, not-false, nil_from_length}
use Rattle.bgp_clean.proofs.Prelude.{eqb-true, none-some, IPV4, Context, PrefixValue, run_of, row_is_run, Attr, MpUnreach, canonical, is_writable, Belongs}
use Rattle.bgp_clean.proofs.Prelude.{HasRanges, Attrs, Note, Update, CanBeWritten, Mark, field_marks, marks_of, Parts, parts_of, present, slot, attr_list}
use Rattle.bgp_clean.proofs.Prelude.{attrs_from, kept_by, kept_of, no_attrs, attrs_of, update_of, verdict_of, attributes_octets, written_body}
use Rattle.bgp_clean.proofs.Prelude.{is_out_of_place, Verdict, body-parts, length-body, valid-writable, recognised_types, valid-accepted, bare_family}
use Rattle.bgp_clean.proofs.Prelude.{family_of_kept, family_of_marks, end_of_rib, family_in, taken-of}
use Rattle.bgp_clean.proofs.Prelude.{gone_routes, has_any, nlri_routes, reached_routes}
use Rattle.bgp_attr.specs.declared.judged.Judged.{Judged}
use Rattle.bgp_update.proofs.MarkLemmas.{KeepsAll, field-keep}
use Rattle.bgp_update.proofs.QuietMarks.{no_marks}

-- ---- an MP_UNREACH_NLRI alone

abbrev pub with_unreach : Option MpUnreach → Attrs
with_unreach o = record no_attrs { mp_unreach = o }

abbrev pub unreach_attrs : Option MpUnreach → List Attr
unreach_attrs o = present (λ (r : MpUnreach). Attr.MpUnreach r) o

pub unreach-list : (o : Option MpUnreach) → attr_list (with_unreach o) ≡ unreach_attrs o
unfolding slot attrs_from
unreach-list None = sym (recognised_types (with_unreach None) refl)
unreach-list (Some r) = sym (recognised_types (with_unreach (Some r)) refl)

-- the UPDATE of an End-of-RIB, which has such an attribute or none
abbrev pub end_update : Option MpUnreach → Update
end_update o = record { withdrawn = []; attrs = with_unreach o; nlri = [] }

abbrev pub family_of_end : Option MpUnreach → Option ℕ
family_of_end None = Some IPV4
family_of_end (Some r) = bare_family (Attr.MpUnreach r)

-- the UPDATE is the End-of-RIB of this family
pub record IsEnding (u : Update) (family : ℕ) : Type 0 where
  pub unreach : Option MpUnreach
  pub is : u ≡ end_update unreach
  pub of_family : family_of_end unreach ≡ Some family

-- ---- what is accepted from an End-of-RIB

bare-unreach : (x : Attr) (f : ℕ) → bare_family x ≡ Some f → (r : MpUnreach) × (x ≡ Attr.MpUnreach r)
bare-unreach (Attr.MpUnreach r) f e = (r, refl)
bare-unreach x f e = absurd (none-some f e)

kept-bare : (ks : List Attr) (f : ℕ) → family_of_kept ks ≡ Some f → (r : MpUnreach) × (ks ≡ Attr.MpUnreach r ∷ []) × (bare_family (Attr.MpUnreach r) ≡ Some f)
kept-bare [] f e = absurd (none-some f e)
kept-bare (x ∷ []) f e =
    let is = bare-unreach x f e in
    (is.0, ap (λ (y : Attr). y ∷ []) is.1, ap bare_family (sym is.1) ∙ e)
kept-bare (x ∷ y ∷ ks) f e = absurd (none-some f e)

marks-end : (ms : List Mark) (f : ℕ) → family_of_marks ms ≡ Some f → (o : Option MpUnreach) × (attrs_of (kept_of ms) ≡ with_unreach o) × (family_of_end o ≡ Some f)
unfolding attrs_from
marks-end [] f e = (None, refl, e)
marks-end (m ∷ []) f e = let bare = kept-bare (kept_of (m ∷ [])) f e in (Some bare.0, ap attrs_of bare.1, bare.2)
marks-end (m ∷ n ∷ ms) f e = absurd (none-some f e)

run-none : (b : List ℕ) → eqb (length b) 0 ≡ true → (run_of 4 b).0 ≡ []
run-none b e =
    ap (λ (x : List ℕ). (run_of 4 x).0) (nil_from_length b (eqb-true (length b) 0 e)) ∙ ap (λ (q : List PrefixValue × List ℕ). q.0) (row_is_run 4 [] [] refl)

abbrev update : List PrefixValue → Attrs → List PrefixValue → Update
update withdrawn attrs nlri = record { withdrawn = withdrawn; attrs = attrs; nlri = nlri }

same-update : (w n : List PrefixValue) (a b : Attrs) → w ≡ [] → a ≡ b → n ≡ [] → update w a n ≡ update [] b []
same-update w n a b e f g = rw (e, f, g) refl

module _ (ctx : Context) (p : Parts) (f : ℕ) where
  ending-by : (w n : Bool) → eqb (length p.withdrawn) 0 ≡ w → eqb (length p.nlri) 0 ≡ n → cond (w && n) (family_of_marks (marks_of ctx p)) None ≡ Some f
      → IsEnding (update_of p (marks_of ctx p)) f
  ending-by true true no_w no_n e =
      let end = marks-end (marks_of ctx p) f e in
      record { unreach = end.0; is = same-update _ _ _ _ (run-none p.withdrawn no_w) end.1 (run-none p.nlri no_n); of_family = end.2 }
  ending-by true false no_w no_n e = absurd (none-some f e)
  ending-by false n no_w no_n e = absurd (none-some f e)

  pub ending : end_of_rib ctx p ≡ Some f → IsEnding (update_of p (marks_of ctx p)) f
  ending e = ending-by (eqb (length p.withdrawn) 0) (eqb (length p.nlri) 0) refl refl e

-- ---- an End-of-RIB has no routes

-- an UPDATE has routes
abbrev pub has_routes_in : Update → Bool
has_routes_in u = has_any (gone_routes u) || (has_any (nlri_routes u) || has_any (reached_routes u))

end-has-none : (o : Option MpUnreach) (f : ℕ) → family_of_end o ≡ Some f → has_routes_in (end_update o) ≡ false
unfolding attrs_from
end-has-none None f e = refl
end-has-none (Some (MpUnreach.Ip4 [])) f e = refl
end-has-none (Some (MpUnreach.Ip6 [])) f e = refl
end-has-none (Some (MpUnreach.Ip4 (p ∷ ps))) f e = absurd (none-some f e)
end-has-none (Some (MpUnreach.Ip6 (p ∷ ps))) f e = absurd (none-some f e)

module _ (ctx : Context) (u : Update) where
  -- an UPDATE that is accepted from an End-of-RIB is one
  pub taken-ending : (body : List ℕ) (notes : List Note) (f : ℕ) → verdict_of ctx body ≡ Verdict.Take u notes → family_in ctx (parts_of body) ≡ Some f → IsEnding u f
  taken-ending body notes f e is_end =
      let is = taken-of ctx body u notes e in
      subst (λ (v : Update). IsEnding v f) is.update (ending ctx is.parts f (ap (family_in ctx) (sym is.found) ∙ is_end))

  unending-by : has_routes_in u ≡ true → (p : Parts) → update_of p (marks_of ctx p) ≡ u → (o : Option ℕ) → end_of_rib ctx p ≡ o → o ≡ None
  unending-by more p update None e = refl
  unending-by more p update (Some f) e =
      let end : IsEnding u f = subst (λ (v : Update). IsEnding v f) update (ending ctx p f e) in
      absurd (both_ways (has_routes_in u) (ap has_routes_in end.is ∙ end-has-none end.unreach f end.of_family) more)

  -- an UPDATE with routes isn't accepted from an End-of-RIB
  pub unending : (body : List ℕ) (notes : List Note) → verdict_of ctx body ≡ Verdict.Take u notes → has_routes_in u ≡ true → family_in ctx (parts_of body) ≡ None
  unending body notes e more =
      let is = taken-of ctx body u notes e in
      ap (family_in ctx) is.found ∙ unending-by more is.parts is.update (end_of_rib ctx is.parts) refl

-- ---- an End-of-RIB that is written

one-mark : (ms : List Mark) (x : Attr) → KeepsAll ms (x ∷ []) → family_of_marks ms ≡ bare_family x
one-mark [] x keeps = absurd keeps
one-mark (m ∷ []) x keeps = ap (λ (j : Judged). family_of_kept (kept_by j ++ [])) keeps.0
one-mark (m ∷ n ∷ ms) x keeps = absurd keeps.1

in-use : (ctx : Context) (r : MpUnreach) → (is_out_of_place ctx (Attr.MpUnreach r) || false) ≡ false → Belongs ctx false (Attr.MpUnreach r)
in-use ctx (MpUnreach.Ip4 routes) e = not-false ctx.ip4 (or_parts (not ctx.ip4) false e).0
in-use ctx (MpUnreach.Ip6 routes) e = not-false ctx.ip6 (or_parts (not ctx.ip6) false e).0

module _ (ctx : Context) (o : Option MpUnreach) (body : List ℕ) (can : CanBeWritten ctx (end_update o) body) (short : length body ≤ 4077) where
  abbrev octets : List ℕ
  octets = attributes_octets ctx (with_unreach o)

  abbrev parts : Parts
  parts = record { withdrawn = []; attributes = octets; nlri = [] }

  long : length (written_body ctx (end_update o)) ≡ 4 + (0 + (length octets + 0))
  long = length-body [] octets []

  parts-found : parts_of (written_body ctx (end_update o)) ≡ Some parts
  parts-found =
      body-parts (written_body ctx (end_update o)) parts
      (record { octets = refl; withdrawn_fits = omega arith; attributes_fit = omega (arith, long, short, can.no_longer) })

  family-by : (q : Option MpUnreach) (f : ℕ) → family_of_end q ≡ Some f → list_any (is_out_of_place ctx) (unreach_attrs q) ≡ false
      → AllByRecursion (λ x. is_writable ctx x ≡ true) (unreach_attrs q) → AllByRecursion HasRanges (unreach_attrs q)
      → family_of_marks (field_marks ctx false (flat_map (canonical ctx) (unreach_attrs q))) ≡ Some f
  family-by None f e family writable ranges = ap family_of_marks (no_marks ctx false) ∙ e
  family-by (Some r) f e family writable ranges =
      one-mark (field_marks ctx false (flat_map (canonical ctx) (Attr.MpUnreach r ∷ []))) (Attr.MpUnreach r)
      (field-keep ctx false (Attr.MpUnreach r ∷ []) (record { writable = writable.0; in_place = in-use ctx r family; ranges = ranges.0 }, tt) (refl, tt)) ∙ e

  -- it is that of the same family
  pub written-end : (f : ℕ) → family_of_end o ≡ Some f → family_in ctx (parts_of (written_body ctx (end_update o))) ≡ Some f
  written-end f e =
      let writable = valid-writable ctx (end_update o) can.valid (omega (arith, short, can.no_longer)) in
      let acc = valid-accepted ctx (end_update o) can.valid in
      ap (family_in ctx) parts-found
      ∙ ap (λ (xs : List Attr). family_of_marks (field_marks ctx false (flat_map (canonical ctx) xs))) (unreach-list o)
      ∙ family-by o f e
      (subst (λ (xs : List Attr). list_any (is_out_of_place ctx) xs ≡ false) (unreach-list o) acc.family)
      (subst (λ (xs : List Attr). AllByRecursion (λ x. is_writable ctx x ≡ true) xs) (unreach-list o) writable)
      (subst (λ (xs : List Attr). AllByRecursion HasRanges xs) (unreach-list o) can.ranges.attributes)
