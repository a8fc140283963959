-- What the marks of a field keep: attributes that can be written, no type twice, in no more octets; and those that are mandatory in a message.
use Rattle.bgp_wire.proofs.Std.{◌≡◌, ℕ, ◌+◌, ◌≤◌, Bool, true, false, not, ◌||◌, cond, eqb, List, [], ◌∷◌, ◌++◌, length, map, Option, Some, None, refl, sym, ap, subst, ◌∙◌, arith, flat_map, list_any, AllByRecursion, option_or, false≢true, or_parts, or_from, or_left, or_right, flat_map-append, list_any-append}
use Rattle.std.specs.Prelude.{option_map}
use Rattle.std.proofs.lemmas.Bool.{true≢false, eqb-true, eq-eqb}
use Rattle.std.proofs.lemmas.List.{append-nil, length-append}
use Rattle.bgp_numbers.specs.declared.attribute.TheConstants.{ORIGIN, AS_PATH, NEXT_HOP}
use Rattle.bgp_frame.specs.declared.notification.Notification.{Notification}
use Rattle.bgp_wire.specs.Prelude.{AreOctets, Row, when, also}
use Rattle.bgp_wire.proofs.OctetLemmas.{AreOctets-front, AreOctets-back}
use Rattle.bgp_open.specs.declared.context.Context.{Context}
use Rattle.bgp_attr.specs.declared.attr.Attr.{Attr}
use Rattle.bgp_attr.specs.declared.judged.Judged.{Judged}
use Rattle.bgp_attr.specs.declared.why.Why.{Why}
use Rattle.bgp_attr.specs.Prelude.{TlvValue, IsTlv, placed_from, AttributeType, type_row, decided, judgement, canonical, type_of}
use Rattle.bgp_attr.specs.declared.judged.Judged.TheVariants as judged
use Rattle.bgp_attr.specs.declared.why.Why.TheVariants as why
use Rattle.bgp_attr.proofs.TestRows.{row-at}
use Rattle.bgp_attr.proofs.EachType.{kept-type, kept-rewritten}
use Rattle.bgp_update.specs.Prelude.{Mark, malformed, carries_routes, repeated, marks_behind, cut_mark, kept_by, kept_of, reset_by, first_reset, withdraws}
use Rattle.bgp_update.proofs.Lists.{eqb-swap}
use Rattle.bgp_update.proofs.Rising.{NoneTwice}
use Rattle.bgp_update.proofs.TypeLemmas.{fresh-fewer}
use Rattle.bgp_update.proofs.MarkLemmas.{IsReady}

-- ---- what no row discards

-- the answer, where there is one, isn't to discard the attribute
abbrev IsSevere : Option Judged → Type 0
IsSevere (Some (judged.Discard w)) = ⊥
IsSevere _ = Unit {0}

when-severe : (b : Bool) (w : Why) → IsSevere (when b (judged.Withdraw w))
when-severe true w = tt
when-severe false w = tt

fault-severe : (o : Option Why) → IsSevere (option_map (λ fault. judged.Withdraw fault) o)
fault-severe None = tt
fault-severe (Some w) = tt

needed-severe : (has_nlri : Bool) → has_nlri ≡ true → IsSevere (when (not has_nlri) (judged.Discard why.Unneeded))
needed-severe true e = tt
needed-severe false e = absurd (false≢true e)

decided-severe : (tests : List (Option Judged)) (x : Attr) (w : Why) → AllByRecursion IsSevere tests → decided tests x ≡ judged.Discard w → ⊥
decided-severe [] x w all e = absurd cc
decided-severe (None ∷ tests) x w all e = decided-severe tests x w all.1 e
decided-severe (Some j ∷ tests) x w all e = subst (λ (k : Judged). IsSevere (Some k)) e all.0

module _ (ctx : Context) (has_nlri : Bool) where
  -- an attribute of this type is never discarded
  abbrev pub NotDropped : ℕ → Type 0
  NotDropped kind = (t : TlvValue) → t.kind ≡ kind → (w : Why) → judgement ctx has_nlri t ≡ judged.Discard w → ⊥

  never : (t : TlvValue) (type : AttributeType) → type_row ctx has_nlri t ≡ type → AllByRecursion IsSevere type.tests → (w : Why) → judgement ctx has_nlri t ≡ judged.Discard w → ⊥
  never t type is all w e = decided-severe type.tests type.value w all (ap (λ (y : AttributeType). decided y.tests y.value) (sym is) ∙ e)

  pub origin-not_dropped : NotDropped ORIGIN
  origin-not_dropped t e = never t _ (row-at ctx has_nlri t ORIGIN e) (when-severe _ _, (when-severe _ _, (when-severe _ _, tt)))

  pub as_path-not_dropped : NotDropped AS_PATH
  as_path-not_dropped t e = never t _ (row-at ctx has_nlri t AS_PATH e) (when-severe _ _, (fault-severe _, (when-severe _ _, tt)))

  pub next_hop-not_dropped : has_nlri ≡ true → NotDropped NEXT_HOP
  next_hop-not_dropped given t e = never t _ (row-at ctx has_nlri t NEXT_HOP e) (needed-severe has_nlri given, (when-severe _ _, (when-severe _ _, tt)))

-- ---- marks of a message that is accepted

pub record GoesOn (j : Judged) : Type 0 where
  pub no_reset : reset_by j ≡ None
  pub no_withdrawal : withdraws j ≡ false

pub or-parts : (a b : Option Notification) → option_or a b ≡ None → (a ≡ None) × (b ≡ None)
or-parts None b e = (refl, e)
or-parts (Some n) b e = absurd cc

pub goes-on : (ms : List Mark) → first_reset ms ≡ None → list_any (λ m. withdraws m.judged) ms ≡ false → AllByRecursion (λ m. GoesOn m.judged) ms
goes-on [] e f = tt
goes-on (m ∷ ms) e f =
    let p = or-parts (reset_by m.judged) (first_reset ms) e in
    let q = or_parts (withdraws m.judged) (list_any (λ m. withdraws m.judged) ms) f in
    (record { no_reset = p.0; no_withdrawal = q.0 }, goes-on ms p.1 q.1)

cut-by : (b : Bool) → kept_by (cond b (judged.Reset malformed) (judged.Withdraw why.Cut)) ≡ []
cut-by true = refl
cut-by false = refl

-- nothing is kept of an attribute that is cut off
pub cut-kept : (at : ℕ) (rest : List ℕ) → kept_of (cut_mark at rest) ≡ []
cut-kept at [] = refl
cut-kept at (flags ∷ rest) = ap (λ (xs : List Attr). xs ++ []) (cut-by _)

pub with_cut-kept : (ms : List Mark) (at : ℕ) (rest : List ℕ) → kept_of (ms ++ cut_mark at rest) ≡ kept_of ms
with_cut-kept ms at rest =
    flat_map-append (λ m. kept_by m.judged) ms (cut_mark at rest) ∙ ap (λ (xs : List Attr). kept_of ms ++ xs) (cut-kept at rest) ∙ append-nil (kept_of ms)

repeated-by : (b : Bool) → kept_by (cond b (judged.Reset malformed) (judged.Discard why.Repeated)) ≡ []
repeated-by true = refl
repeated-by false = refl

repeated-kept : (kind : ℕ) → kept_by (repeated kind) ≡ []
repeated-kept kind = repeated-by (carries_routes kind)

-- what is kept of a row of n octets, after attributes of these types
pub record IsKept (ctx : Context) (has_nlri : Bool) (seen : ℕ → Bool) (xs : List Attr) (n : ℕ) : Type 0 where
  pub ready : AllByRecursion (IsReady ctx has_nlri) xs
  pub shorter : length (flat_map (canonical ctx) xs) ≤ n
  pub fresh : NoneTwice seen (map type_of xs)

module _ (ctx : Context) (has_nlri : Bool) where
  dropped : (kind : ℕ) (seen : ℕ → Bool) (xs : List Attr) (n m : ℕ) → IsKept ctx has_nlri (also kind seen) xs n → IsKept ctx has_nlri seen xs (m + n)
  dropped kind seen xs n m k = record {
    ready = k.ready;
    shorter = omega (arith, k.shorter);
    fresh = fresh-fewer (also kind seen) seen (map type_of xs) (λ j e. (or_parts (eqb j kind) (seen j) e).1) k.fresh;
  }

  one-more : (t : TlvValue) (front : List ℕ) (seen : ℕ → Bool) (xs : List Attr) (n : ℕ) → IsTlv t front → AreOctets front → (s : Bool) → seen t.kind ≡ s → (j : Judged) → judgement ctx has_nlri t ≡ j
      → IsKept ctx has_nlri (also t.kind seen) xs n → IsKept ctx has_nlri seen (kept_by (cond s (repeated t.kind) j) ++ xs) (length front + n)
  one-more t front seen xs n spelled octets true old j is k =
      subst (λ (ys : List Attr). IsKept ctx has_nlri seen (ys ++ xs) (length front + n)) (sym (repeated-kept t.kind)) (dropped t.kind seen xs n (length front) k)
  one-more t front seen xs n spelled octets false new (judged.Keep x) is k =
      let w = kept-rewritten ctx has_nlri t x front spelled octets is in
      let no_longer : length (canonical ctx x) ≤ length front = w.no_longer in
      record {
        ready = (record { writable = w.writable; in_place = w.in_place; ranges = w.ranges }, k.ready);
        shorter = omega (arith, length-append (canonical ctx x) (flat_map (canonical ctx) xs), k.shorter);
        fresh = subst (λ (i : ℕ). (seen i ≡ false) × NoneTwice (also i seen) (map type_of xs)) (sym (kept-type ctx has_nlri t x is)) (new, k.fresh);
      }
  one-more t front seen xs n spelled octets false new (judged.Discard w) is k = dropped t.kind seen xs n (length front) k
  one-more t front seen xs n spelled octets false new (judged.Withdraw w) is k = dropped t.kind seen xs n (length front) k
  one-more t front seen xs n spelled octets false new (judged.Reset m) is k = dropped t.kind seen xs n (length front) k

  pub row-kept : (ts : List TlvValue) (row : List ℕ) (at : ℕ) (seen : ℕ → Bool) → Row IsTlv ts row → AreOctets row
      → IsKept ctx has_nlri seen (kept_of (marks_behind ctx has_nlri seen (placed_from at ts))) (length row)
  row-kept [] row at seen spelled octets = record { ready = tt; shorter = omega arith; fresh = tt }
  row-kept (t ∷ ts) row at seen spelled octets =
      let joined : AreOctets (spelled.0 ++ spelled.1) = subst AreOctets spelled.2 octets in
      let more = row-kept ts spelled.1 (at + length t.whole) (also t.kind seen) spelled.4 (AreOctets-back spelled.0 spelled.1 joined) in
      let long : length spelled.0 + length spelled.1 ≡ length row = sym (ap length spelled.2 ∙ length-append spelled.0 spelled.1) in
      subst (λ (n : ℕ). IsKept ctx has_nlri seen (kept_of (marks_behind ctx has_nlri seen (placed_from at (t ∷ ts)))) n) long
      (one-more t spelled.0 seen (kept_of (marks_behind ctx has_nlri (also t.kind seen) (placed_from (at + length t.whole) ts))) (length spelled.1) spelled.3 (AreOctets-front spelled.0 spelled.1 joined)
      (seen t.kind) refl (judgement ctx has_nlri t) refl more)

  -- ---- an attribute that is never discarded is kept where it is

  module _ (kind : ℕ) (stays : NotDropped ctx has_nlri kind) where
    abbrev among : List Attr → Bool
    among xs = list_any (λ x. eqb (type_of x) kind) xs

    this-kept : (t : TlvValue) (xs : List Attr) (s : Bool) → s ≡ false → (j : Judged) → judgement ctx has_nlri t ≡ j → t.kind ≡ kind → GoesOn (cond s (repeated t.kind) j)
        → among (kept_by (cond s (repeated t.kind) j) ++ xs) ≡ true
    this-kept t xs true new j is same on = absurd (true≢false new)
    this-kept t xs false new (judged.Keep x) is same on = or_left (eqb (type_of x) kind) (among xs) (eq-eqb (type_of x) kind (kept-type ctx has_nlri t x is ∙ same))
    this-kept t xs false new (judged.Discard w) is same on = absurd (stays t same w is)
    this-kept t xs false new (judged.Withdraw w) is same on = absurd (true≢false on.no_withdrawal)
    this-kept t xs false new (judged.Reset n) is same on = absurd (let e : Some n ≡ None = on.no_reset in cc)

    kept-by : (t : TlvValue) (ts : List TlvValue) (at : ℕ) (seen : ℕ → Bool) (h : Bool) → eqb t.kind kind ≡ h → seen kind ≡ false → AllByRecursion (λ m. GoesOn m.judged) (marks_behind ctx has_nlri seen (placed_from at (t ∷ ts)))
        → (seen kind ≡ false → eqb kind t.kind ≡ false → list_any (λ q. eqb q.tlv.kind kind) (placed_from (at + length t.whole) ts) ≡ true
        → among (kept_of (marks_behind ctx has_nlri (also t.kind seen) (placed_from (at + length t.whole) ts))) ≡ true)
        → (h || list_any (λ q. eqb q.tlv.kind kind) (placed_from (at + length t.whole) ts)) ≡ true → among (kept_of (marks_behind ctx has_nlri seen (placed_from at (t ∷ ts)))) ≡ true
    kept-by t ts at seen true e new on later has =
        let same : t.kind ≡ kind = eqb-true t.kind kind e in
        this-kept t (kept_of (marks_behind ctx has_nlri (also t.kind seen) (placed_from (at + length t.whole) ts))) (seen t.kind) (ap seen same ∙ new) (judgement ctx has_nlri t) refl same on.0
    kept-by t ts at seen false e new on later has =
        let first : List Attr = kept_by (cond (seen t.kind) (repeated t.kind) (judgement ctx has_nlri t)) in
        let rest : List Attr = kept_of (marks_behind ctx has_nlri (also t.kind seen) (placed_from (at + length t.whole) ts)) in
        list_any-append (λ x. eqb (type_of x) kind) first rest ∙ or_right (among first) (among rest) (later new (eqb-swap kind t.kind ∙ e) has)

    pub has-kept : (ts : List TlvValue) (at : ℕ) (seen : ℕ → Bool) → seen kind ≡ false → AllByRecursion (λ m. GoesOn m.judged) (marks_behind ctx has_nlri seen (placed_from at ts))
        → list_any (λ q. eqb q.tlv.kind kind) (placed_from at ts) ≡ true → among (kept_of (marks_behind ctx has_nlri seen (placed_from at ts))) ≡ true
    has-kept [] at seen new on has = absurd (false≢true has)
    has-kept (t ∷ ts) at seen new on has =
        kept-by t ts at seen (eqb t.kind kind) refl new on
        (λ old other more. has-kept ts (at + length t.whole) (also t.kind seen) (or_from (eqb kind t.kind) (seen kind) other old) on.1 more) has
