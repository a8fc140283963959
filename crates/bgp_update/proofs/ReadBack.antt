-- A valid UPDATE that is written is accepted unchanged.
use Rattle.bgp_wire.proofs.Std.{◌≡◌, ℕ, ◌+◌, ◌≤◌, Bool, true, false, not, ◌&&◌, ◌||◌, eqb, ltb, List, [], ◌∷◌, ◌++◌, length, map, Option, Some, None, refl, sym, ap, ap₂, subst, ◌∙◌, arith, flat_map, list_any, AllByRecursion, option_or, both_ways, eqb-false, or_parts, or_from, and_right, cond-false, le-ltb, not-false}
use Rattle.std.specs.Prelude.{is_some, is_none}
use Rattle.std.proofs.lemmas.Bool.{eqb-true, lt-ltb}
use Rattle.std.proofs.lemmas.List.{length-append}
use Rattle.bgp_numbers.specs.declared.attribute.TheConstants.{ORIGIN, AS_PATH, NEXT_HOP, LOCAL_PREF}
use Rattle.bgp_frame.specs.declared.notification.Notification.{Notification}
use Rattle.bgp_open.specs.declared.context.Context.{Context}
use Rattle.bgp_prefix.specs.Prelude.{PrefixValue, IsValid, spelling_of, run_of}
use Rattle.bgp_prefix.proofs.RunLemmas.{Row-prefixes}
use Rattle.bgp_prefix.proofs.LawLemmas.{row_is_run}
use Rattle.bgp_attr.specs.declared.attr.Attr.{Attr}
use Rattle.bgp_attr.specs.Prelude.{TlvValue, entry_of, placed_from, length_octets, written_tlv, canonical, value_octets, run_octets, type_of, is_too_wide, is_as4, is_empty, is_misnamed, has_as_zero, stands_twice, is_too_long, is_out_of_place, is_writable, HasRanges}
use Rattle.bgp_attr.specs.declared.attr.Attr.TheVariants as attr
use Rattle.bgp_attr.proofs.EachType.{Placed, belongs}
use Rattle.bgp_attr.proofs.TestRows.{Writes-writable}
use Rattle.bgp_update.specs.declared.attrs.Attrs.{Attrs}
use Rattle.bgp_update.specs.declared.note.Note.{Note}
use Rattle.bgp_update.specs.declared.update.Update.{Update}
use Rattle.bgp_update.specs.Prelude.{Parts, parts_of, attributes_at, Mark, marks_of, kept_of, attrs_of, update_of, has_routes, is_reachable, has_type, missing_of, is_missing, missing_note, missing_notes, notes_of, present, slots, slot, canonical_order, attr_list, reset_of_run, reset_of, is_withdrawn, unless_reset, without_reset, verdict_on, of_parts, verdict_of, attributes_octets, written_body, announces, invalid_of, HasUpdateRanges}
use Rattle.bgp_update.specs.declared.verdict.Verdict.TheVariants as verdict
use Rattle.bgp_update.specs.Parts.{has_nlri}
use Rattle.bgp_wire.specs.Prelude.{none_of_them}
use Rattle.bgp_update.specs.Written as written
use Rattle.bgp_update.proofs.Bodies.{body-parts, length-body}
use Rattle.bgp_update.proofs.Lists.{none-all, all-more, all-both, all-flat_map}
use Rattle.bgp_update.proofs.Rising.{NoneTwice}
use Rattle.bgp_update.proofs.TypeLemmas.{order-fresh}
use Rattle.bgp_update.proofs.SlotLemmas.{other_slot, slot-at, slot-is, slot-types, list-named, list-back}
use Rattle.bgp_update.proofs.KeptSlots.{field-lacks}
use Rattle.bgp_update.proofs.Validity.{IsAccepted, valid-accepted}
use Rattle.bgp_update.proofs.MarkLemmas.{KeepsAll, keeps-kept, keeps-no_reset, keeps-no_withdrawal, keeps-no_note, IsReady, AreReady, written-tlvs, field-keep, slots-fresh}

-- ---- attributes that belong in the message

placed-other : (ctx : Context) (nlri : Bool) (k : ℕ) → eqb k NEXT_HOP ≡ false → eqb k LOCAL_PREF ≡ false → (x : Attr) → type_of x ≡ k → Placed ctx nlri x
placed-other ctx nlri k hop pref (attr.NextHop addr) e = absurd (eqb-false k NEXT_HOP hop (sym e))
placed-other ctx nlri k hop pref (attr.LocalPref n) e = absurd (eqb-false k LOCAL_PREF pref (sym e))
placed-other ctx nlri k hop pref _ e = tt

module _ (ctx : Context) (nlri : Bool) (a : Attrs) (hop : is_some a.next_hop ≡ true → nlri ≡ true) (pref : is_some a.local_pref ≡ true → ctx.internal ≡ true) where
  placed-present : {A : Type 0} (as_attr : A → Attr) (o : Option A) → ((v : A) → is_some o ≡ true → Placed ctx nlri (as_attr v)) → AllByRecursion (Placed ctx nlri) (present as_attr o)
  placed-present as_attr None given = tt
  placed-present as_attr (Some v) given = (given v refl, tt)

  placed-at : (k kind : ℕ) → eqb k kind ≡ true → AllByRecursion (Placed ctx nlri) (entry_of kind (slots a) (other_slot a kind)) → AllByRecursion (Placed ctx nlri) (slot a k)
  placed-at k kind same all = subst (λ (xs : List Attr). AllByRecursion (Placed ctx nlri) xs) (sym (ap (slot a) (eqb-true k kind same) ∙ slot-at a kind)) all

  placed-slot : (k : ℕ) → AllByRecursion (Placed ctx nlri) (slot a k)
  placed-slot k = by (eqb k NEXT_HOP) refl (eqb k LOCAL_PREF) refl
    where
      by : (b : Bool) → eqb k NEXT_HOP ≡ b → (c : Bool) → eqb k LOCAL_PREF ≡ c → AllByRecursion (Placed ctx nlri) (slot a k)
      by true e c f = placed-at k NEXT_HOP e (placed-present attr.NextHop a.next_hop (λ addr is. hop is))
      by false e true f = placed-at k LOCAL_PREF f (placed-present attr.LocalPref a.local_pref (λ n is. pref is))
      by false e false f = all-more (λ x. type_of x ≡ k) (Placed ctx nlri) (slot a k) (placed-other ctx nlri k e f) (slot-types a k)

-- ---- distinct types

pub list-fresh : (a : Attrs) → NoneTwice none_of_them (map type_of (attr_list a))
list-fresh a = slots-fresh (slot a) (slot-types a) (λ k. (slot-is a k).few) canonical_order none_of_them order-fresh

-- ---- runs

pub run-some : (ps : List PrefixValue) → ltb 0 (length (run_octets ps)) ≡ ltb 0 (length ps)
unfolding spelling_of
run-some [] = refl
run-some (p ∷ ps) = lt-ltb 0 (length (run_octets (p ∷ ps))) (omega arith) ∙ sym (lt-ltb 0 (length {A = PrefixValue} (p ∷ ps)) (omega arith))

pub written-run : (ps : List PrefixValue) → AllByRecursion (IsValid 4) ps → run_of 4 (run_octets ps) ≡ (ps, [])
written-run ps valid = row_is_run 4 ps (run_octets ps) (Row-prefixes 4 ps valid)

run-no_reset : (ps : List PrefixValue) (b : List ℕ) → run_of 4 b ≡ (ps, []) → reset_of_run b ≡ None
run-no_reset ps b e = rw e refl

-- ---- lengths

within-all : (f : Attr → List ℕ) (xs : List Attr) (n : ℕ) → length (flat_map f xs) ≤ n → AllByRecursion (λ x. length (f x) ≤ n) xs
within-all f [] n le = tt
within-all f (x ∷ xs) n le =
    let all : length (f x) + length (flat_map f xs) ≤ n = omega (arith, length-append (f x) (flat_map f xs)) in
    (omega arith, within-all f xs n (omega arith))

value-within : (ctx : Context) (x : Attr) (n : ℕ) → n ≤ 65535 → length (canonical ctx x) ≤ n → is_too_long ctx x ≡ false
value-within ctx x n small le =
    le-ltb 65535 (length (value_octets ctx x)) (omega (arith, length-append (length_octets (written_tlv ctx x).flags (length (value_octets ctx x))) (value_octets ctx x)))

-- ---- ready to be written

as4-each : (as4 any one : Bool) → (as4 && any) ≡ false → (any ≡ false → one ≡ false) → (as4 && one) ≡ false
as4-each true any one e each = each e
as4-each false any one e each = refl

record AllPass (ctx : Context) (x : Attr) : Type 0 where
  narrow : is_too_wide ctx x ≡ false
  allowed : (ctx.as4 && is_as4 x) ≡ false
  family : is_out_of_place ctx x ≡ false
  some : is_empty x ≡ false
  nonzero : has_as_zero x ≡ false
  once : stands_twice x ≡ false

allowed-all : (as4 : Bool) (xs : List Attr) → (as4 && list_any is_as4 xs) ≡ false → AllByRecursion (λ x. (as4 && is_as4 x) ≡ false) xs
allowed-all true xs e = none-all is_as4 xs e
allowed-all false [] e = tt
allowed-all false (x ∷ xs) e = (refl, allowed-all false xs e)

passes : (ctx : Context) (xs : List Attr) → list_any (is_too_wide ctx) xs ≡ false → AllByRecursion (λ x. (ctx.as4 && is_as4 x) ≡ false) xs → list_any (is_out_of_place ctx) xs ≡ false
    → list_any is_empty xs ≡ false → list_any has_as_zero xs ≡ false → list_any stands_twice xs ≡ false → AllByRecursion (AllPass ctx) xs
passes ctx [] a b c d e f = tt
passes ctx (x ∷ xs) a b c d e f =
    let p = or_parts (is_too_wide ctx x) (list_any (is_too_wide ctx) xs) a in
    let q = or_parts (is_out_of_place ctx x) (list_any (is_out_of_place ctx) xs) c in
    let r = or_parts (is_empty x) (list_any is_empty xs) d in
    let s = or_parts (has_as_zero x) (list_any has_as_zero xs) e in
    let t = or_parts (stands_twice x) (list_any stands_twice xs) f in
    (record { narrow = p.0; allowed = b.0; family = q.0; some = r.0; nonzero = s.0; once = t.0 }, passes ctx xs p.1 b.1 q.1 r.1 s.1 t.1)

record Rest (ctx : Context) (nlri : Bool) (x : Attr) : Type 0 where
  placed : Placed ctx nlri x
  named : is_misnamed x ≡ false
  fits : is_too_long ctx x ≡ false
  ranges : HasRanges x

rest-all : (ctx : Context) (nlri : Bool) (xs : List Attr) → AllByRecursion (Placed ctx nlri) xs → AllByRecursion (λ x. is_misnamed x ≡ false) xs → AllByRecursion (λ x. is_too_long ctx x ≡ false) xs
    → AllByRecursion HasRanges xs → AllByRecursion (Rest ctx nlri) xs
rest-all ctx nlri [] a b c d = tt
rest-all ctx nlri (x ∷ xs) a b c d = (record { placed = a.0; named = b.0; fits = c.0; ranges = d.0 }, rest-all ctx nlri xs a.1 b.1 c.1 d.1)

ready : (ctx : Context) (nlri : Bool) (x : Attr) → AllPass ctx x → Rest ctx nlri x → IsReady ctx nlri x
ready ctx nlri x p r = record {
  writable = Writes-writable ctx x (record { narrow = p.narrow; allowed = p.allowed; some = p.some; named = r.named; nonzero = p.nonzero; once = p.once; fits = r.fits });
  in_place = belongs ctx nlri x r.placed p.family;
  ranges = r.ranges;
}

-- ---- nothing is missing

some-then : (o p : Bool) → (o && not p) ≡ false → o ≡ true → p ≡ true
some-then true p e is = not-false p e
some-then false p e is = absurd (both_ways false refl is)

-- an attribute of the type is among those written
has-by : (ctx : Context) (kind : ℕ) (xs : List Attr) (at : ℕ) → list_any (λ q. eqb q.tlv.kind kind) (placed_from at (map (written_tlv ctx) xs)) ≡ list_any (λ x. eqb (type_of x) kind) xs
has-by ctx kind [] at = refl
has-by ctx kind (x ∷ xs) at = ap (λ (b : Bool). eqb (type_of x) kind || b) (has-by ctx kind xs (at + length (canonical ctx x)))

not-missing : (some has : Bool) (none : Bool) → (some && none) ≡ false → (has ≡ false → none ≡ true) → (some && not has) ≡ false
not-missing some true none e so = and_right some false refl
not-missing some false none e so = ap (λ (b : Bool). some && b) (sym (so refl)) ∙ e

-- what a test on both says of each
of-both : (b x y : Bool) → (b && (x || y)) ≡ false → ((b && x) ≡ false) × ((b && y) ≡ false)
of-both true x y e = or_parts x y e
of-both false x y e = (refl, refl)

-- ---- the verdict

-- with no reset, no withdrawal and no note, the message is accepted
take-as : (p : Parts) (marks : List Mark) (u : Update) → reset_of p marks ≡ None → is_withdrawn p marks ≡ false → update_of p marks ≡ u → notes_of p marks ≡ [] → verdict_on p marks ≡ verdict.Take u []
take-as p marks u reset withdrawn update notes =
    ap (λ (o : Option Notification). unless_reset o (without_reset p marks)) reset
    ∙ cond-false (is_withdrawn p marks) _ (verdict.Take (update_of p marks) (notes_of p marks)) withdrawn
    ∙ ap₂ (λ (v : Update) (ns : List Note). verdict.Take v ns) update notes

update-same : (u : Update) (withdrawn : List PrefixValue) (attrs : Attrs) (nlri : List PrefixValue) → withdrawn ≡ u.withdrawn → attrs ≡ u.attrs → nlri ≡ u.nlri
    → (let v : Update = record { withdrawn = withdrawn; attrs = attrs; nlri = nlri } in v ≡ u)
update-same u withdrawn attrs nlri e f g = rw (e, f, g) refl

module _ (ctx : Context) (u : Update) (ranges : HasUpdateRanges u) (valid : invalid_of ctx u ≡ None) (short : length (written_body ctx u) ≤ 4077) where
  abbrev a : Attrs
  a = u.attrs

  abbrev xs : List Attr
  xs = attr_list u.attrs

  abbrev parts : Parts
  parts = record { withdrawn = run_octets u.withdrawn; attributes = attributes_octets ctx u.attrs; nlri = run_octets u.nlri }

  long : length (written_body ctx u) ≡ 4 + (length (run_octets u.withdrawn) + (length (attributes_octets ctx u.attrs) + length (run_octets u.nlri)))
  long = length-body (run_octets u.withdrawn) (attributes_octets ctx u.attrs) (run_octets u.nlri)

  parts-found : parts_of (written_body ctx u) ≡ Some parts
  parts-found = body-parts (written_body ctx u) parts (record { octets = refl; withdrawn_fits = omega (arith, long, short); attributes_fit = omega (arith, long, short) })

  acc : IsAccepted ctx u
  acc = valid-accepted ctx u valid

  nlri-same : has_nlri parts ≡ written.has_nlri u
  nlri-same = run-some u.nlri

  hop-placed : is_some a.next_hop ≡ true → has_nlri parts ≡ true
  hop-placed is = nlri-same ∙ some-then (is_some a.next_hop) (written.has_nlri u) acc.next_hop is

  are-ready : AreReady ctx (has_nlri parts) xs
  are-ready =
      let placed = all-flat_map (Placed ctx (has_nlri parts)) (slot u.attrs) canonical_order (placed-slot ctx (has_nlri parts) u.attrs hop-placed (some-then (is_some a.local_pref) ctx.internal acc.local_pref)) in
      let within = within-all (canonical ctx) xs 4077 (omega (arith, long, short)) in
      let fit = all-more (λ x. length (canonical ctx x) ≤ 4077) (λ x. is_too_long ctx x ≡ false) xs (λ x le. value-within ctx x 4077 (omega arith) le) within in
      all-both (AllPass ctx) (Rest ctx (has_nlri parts)) (IsReady ctx (has_nlri parts)) xs (ready ctx (has_nlri parts))
      (passes ctx xs acc.narrow (allowed-all ctx.as4 xs acc.allowed) acc.family acc.some acc.nonzero acc.once)
      (rest-all ctx (has_nlri parts) xs placed (list-named u.attrs) fit ranges.attributes)

  abbrev marks : List Mark
  marks = marks_of ctx parts

  all-keep : KeepsAll marks xs
  all-keep = field-keep ctx (has_nlri parts) xs are-ready (list-fresh u.attrs)

  attrs-back : attrs_of xs ≡ u.attrs
  attrs-back = list-back u.attrs acc.others ranges.others

  kept-back : attrs_of (kept_of marks) ≡ u.attrs
  kept-back = ap attrs_of (keeps-kept marks xs all-keep) ∙ attrs-back

  reachable-same : is_reachable parts marks ≡ announces u
  reachable-same = ap₂ (λ (x y : Bool). x || y) nlri-same (ap (λ (b : Attrs). has_routes b.mp_reach) kept-back)

  has-same : (kind : ℕ) → has_type kind parts ≡ list_any (λ x. eqb (type_of x) kind) xs
  has-same kind =
      ap (λ (q : List TlvValue × List ℕ). list_any (λ p. eqb p.tlv.kind kind) (placed_from 0 q.0)) (written-tlvs ctx (has_nlri parts) xs are-ready)
      ∙ has-by ctx kind xs 0

  -- the field of a type is empty where the message lacks the type
  no-field : {A : Type 0} (as_attr : A → Attr) (o : Option A) (kind : ℕ) → slot a kind ≡ present as_attr o → has_type kind parts ≡ false → is_none o ≡ true
  no-field as_attr o kind is e =
      field-lacks xs (list-named u.attrs) (list-fresh u.attrs) as_attr o kind (ap (λ (b : Attrs). slot b kind) attrs-back ∙ is) ∙ ap not (sym (has-same kind) ∙ e)

  record Complete : Type 0 where
    origin : (is_reachable parts marks && not (has_type ORIGIN parts)) ≡ false
    as_path : (is_reachable parts marks && not (has_type AS_PATH parts)) ≡ false
    next_hop : (has_nlri parts && not (has_type NEXT_HOP parts)) ≡ false

  complete : Complete
  complete =
      let p = or_parts (announces u && (is_none a.origin || is_none a.as_path)) (written.has_nlri u && is_none a.next_hop) acc.complete in
      let q = of-both (announces u) (is_none a.origin) (is_none a.as_path) p.0 in
      record {
        origin = not-missing (is_reachable parts marks) (has_type ORIGIN parts) (is_none a.origin) (ap (λ (b : Bool). b && is_none a.origin) reachable-same ∙ q.0) (no-field attr.Origin a.origin ORIGIN (slot-at a ORIGIN));
        as_path = not-missing (is_reachable parts marks) (has_type AS_PATH parts) (is_none a.as_path) (ap (λ (b : Bool). b && is_none a.as_path) reachable-same ∙ q.1) (no-field attr.AsPath a.as_path AS_PATH (slot-at a AS_PATH));
        next_hop = not-missing (has_nlri parts) (has_type NEXT_HOP parts) (is_none a.next_hop) (ap (λ (b : Bool). b && is_none a.next_hop) nlri-same ∙ p.1) (no-field attr.NextHop a.next_hop NEXT_HOP (slot-at a NEXT_HOP));
      }

  none-missing : is_missing (missing_of parts marks) ≡ false
  none-missing = or_from _ _ complete.origin (or_from _ _ complete.as_path complete.next_hop)

  no_missing-notes : missing_notes (missing_of parts marks) ≡ []
  no_missing-notes =
      ap₂ (λ (x y : List Note). x ++ y) (ap (λ (b : Bool). missing_note b ORIGIN) complete.origin)
      (ap₂ (λ (x y : List Note). x ++ y) (ap (λ (b : Bool). missing_note b AS_PATH) complete.as_path) (ap (λ (b : Bool). missing_note b NEXT_HOP) complete.next_hop))

  no-reset : reset_of parts marks ≡ None
  no-reset =
      ap (λ (o : Option Notification). option_or o (option_or (reset_of_run (run_octets u.withdrawn)) (reset_of_run (run_octets u.nlri)))) (keeps-no_reset marks xs all-keep)
      ∙ ap (λ (o : Option Notification). option_or o (reset_of_run (run_octets u.nlri))) (run-no_reset u.withdrawn (run_octets u.withdrawn) (written-run u.withdrawn ranges.withdrawn))
      ∙ run-no_reset u.nlri (run_octets u.nlri) (written-run u.nlri ranges.nlri)

  update-back : update_of parts marks ≡ u
  update-back =
      update-same u _ _ _ (ap (λ (q : List PrefixValue × List ℕ). q.0) (written-run u.withdrawn ranges.withdrawn)) kept-back
      (ap (λ (q : List PrefixValue × List ℕ). q.0) (written-run u.nlri ranges.nlri))

  taken-back : verdict_of ctx (written_body ctx u) ≡ verdict.Take u []
  taken-back =
      ap (of_parts ctx) parts-found
      ∙ take-as parts marks u no-reset
      (or_from _ _ (keeps-no_withdrawal marks xs all-keep) none-missing)
      update-back
      (ap₂ (λ (x y : List Note). x ++ y) (keeps-no_note (attributes_at parts) marks xs all-keep) no_missing-notes)

pub valid-taken : (ctx : Context) (u : Update) → HasUpdateRanges u → invalid_of ctx u ≡ None → length (written_body ctx u) ≤ 4077 → verdict_of ctx (written_body ctx u) ≡ verdict.Take u []
valid-taken = taken-back

-- ---- a valid UPDATE that fits can be written

record Fits (ctx : Context) (x : Attr) : Type 0 where
  named : is_misnamed x ≡ false
  fits : is_too_long ctx x ≡ false

fits-all : (ctx : Context) (xs : List Attr) → AllByRecursion (λ x. is_misnamed x ≡ false) xs → AllByRecursion (λ x. is_too_long ctx x ≡ false) xs → AllByRecursion (Fits ctx) xs
fits-all ctx [] named fit = tt
fits-all ctx (x ∷ xs) named fit = (record { named = named.0; fits = fit.0 }, fits-all ctx xs named.1 fit.1)

writable-by : (ctx : Context) (x : Attr) → AllPass ctx x → Fits ctx x → is_writable ctx x ≡ true
writable-by ctx x p f =
    Writes-writable ctx x (record { narrow = p.narrow; allowed = p.allowed; some = p.some; named = f.named; nonzero = p.nonzero; once = p.once; fits = f.fits })

module _ (ctx : Context) (u : Update) where
  -- an UPDATE that fits a message has no attribute that is too long
  pub none-long : length (written_body ctx u) ≤ 4077 → AllByRecursion (λ x. is_too_long ctx x ≡ false) (attr_list u.attrs)
  none-long short =
      let xs : List Attr = attr_list u.attrs in
      let within = within-all (canonical ctx) xs 4077 (omega (arith, length-body (run_octets u.withdrawn) (attributes_octets ctx u.attrs) (run_octets u.nlri), short)) in
      all-more (λ x. length (canonical ctx x) ≤ 4077) (λ x. is_too_long ctx x ≡ false) xs (λ x le. value-within ctx x 4077 (omega arith) le) within

  pub short-writable : invalid_of ctx u ≡ None → AllByRecursion (λ x. is_too_long ctx x ≡ false) (attr_list u.attrs) → AllByRecursion (λ x. is_writable ctx x ≡ true) (attr_list u.attrs)
  short-writable valid fit =
      let acc : IsAccepted ctx u = valid-accepted ctx u valid in
      let xs : List Attr = attr_list u.attrs in
      all-both (AllPass ctx) (Fits ctx) (λ x. is_writable ctx x ≡ true) xs (writable-by ctx)
      (passes ctx xs acc.narrow (allowed-all ctx.as4 xs acc.allowed) acc.family acc.some acc.nonzero acc.once)
      (fits-all ctx xs (list-named u.attrs) fit)

  pub valid-writable : invalid_of ctx u ≡ None → length (written_body ctx u) ≤ 4077 → AllByRecursion (λ x. is_writable ctx x ≡ true) (attr_list u.attrs)
  valid-writable valid short = short-writable valid (none-long short)
