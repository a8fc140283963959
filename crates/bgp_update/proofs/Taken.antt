-- An accepted UPDATE can be written, in no more octets.
use Rattle.bgp_wire.proofs.Std.{◌≡◌, ℕ, ◌+◌, ◌≤◌, Bool, true, false, not, ◌&&◌, ◌||◌, cond, eqb, ltb, List, [], ◌∷◌, length, Option, Some, None, refl, sym, ap, ap₂, subst, ◌∙◌, arith, list_any, AllByRecursion, option_or, false≢true, or_parts, or_from, not_from_true, nil_from_length}
use Rattle.std.specs.Prelude.{is_some, is_none}
use Rattle.std.proofs.lemmas.Bool.{true≢false, lt-ltb, eqb-true}
use Rattle.std.proofs.lemmas.List.{length-append}
use Rattle.bgp_numbers.specs.declared.attribute.TheConstants.{ORIGIN, AS_PATH, NEXT_HOP, LOCAL_PREF}
use Rattle.bgp_frame.specs.declared.notification.Notification.{Notification}
use Rattle.bgp_wire.specs.Prelude.{AreOctets, Row, none_of_them}
use Rattle.bgp_wire.proofs.Behinds.{Row-pieces}
use Rattle.bgp_open.specs.declared.context.Context.{Context}
use Rattle.bgp_prefix.specs.Prelude.{PrefixValue, IsPrefix, one_prefix, run_of}
use Rattle.bgp_prefix.proofs.PrefixLemmas.{IsPrefix-reads, IsPrefix-length}
use Rattle.bgp_prefix.proofs.LawLemmas.{Row-rewritten}
use Rattle.bgp_attr.specs.declared.attr.Attr.{Attr}
use Rattle.bgp_attr.specs.Prelude.{tlvs_of, run_octets, type_of, is_too_wide, is_as4, is_empty, has_as_zero, stands_twice, is_out_of_place, Belongs, HasRanges}
use Rattle.bgp_attr.specs.declared.attr.Attr.TheVariants as attr
use Rattle.bgp_attr.proofs.EachType.{has-place}
use Rattle.bgp_attr.proofs.RouteRows.{prefixes-valid}
use Rattle.bgp_attr.proofs.TestRows.{Writes, writable-Writes}
use Rattle.bgp_update.specs.declared.attrs.Attrs.{Attrs}
use Rattle.bgp_update.specs.declared.note.Note.{Note}
use Rattle.bgp_update.specs.declared.update.Update.{Update}
use Rattle.bgp_update.specs.Prelude.{Parts, IsBody, Mark, cut_mark, marks_of, kept_of, attrs_of, update_of, present, slot, is_reachable, has_type, missing_of, is_missing, attr_list, first_reset, bad_network, reset_of_run, reset_of, withdraws, is_withdrawn, verdict_of, attributes_octets, written_body, announces, lacks_some, HasUpdateRanges, CanBeWritten}
use Rattle.bgp_update.specs.declared.verdict.Verdict.TheVariants as verdict
use Rattle.bgp_update.specs.Parts.{has_nlri}
use Rattle.bgp_update.specs.Written as written
use Rattle.bgp_update.proofs.Bodies.{length-body}
use Rattle.bgp_update.proofs.Lists.{all-front, all-none}
use Rattle.bgp_update.proofs.SlotLemmas.{slot-at, field-all}
use Rattle.bgp_update.proofs.Validity.{IsAccepted, accepted-valid}
use Rattle.bgp_update.proofs.MarkLemmas.{IsReady}
use Rattle.bgp_update.proofs.KeptSlots.{field-lacks}
use Rattle.bgp_update.proofs.TakenSlots as slots
use Rattle.bgp_update.proofs.Verdicts.{has-parts, taken-of}
use Rattle.bgp_update.proofs.KeptMarks.{NotDropped, origin-not_dropped, as_path-not_dropped, next_hop-not_dropped, GoesOn, or-parts, goes-on, has-kept}

-- ---- runs

no_reset-length : (n : ℕ) (t : Bool) → eqb n 0 ≡ t → (let reset : Option Notification = cond t None (Some bad_network) in reset ≡ None) → n ≡ 0
no_reset-length n true e f = eqb-true n 0 e
no_reset-length n false e f = absurd cc

-- octets that cause no reset are a row of prefixes
pub run-row : (b : List ℕ) → reset_of_run b ≡ None → Row (IsPrefix 4) (run_of 4 b).0 b
run-row b e =
    let none : (run_of 4 b).1 ≡ [] = nil_from_length (run_of 4 b).1 (no_reset-length (length (run_of 4 b).1) (eqb (length (run_of 4 b).1) 0) refl e) in
    Row-pieces PrefixValue (IsPrefix 4) (one_prefix 4) (IsPrefix-reads 4) b (run_of 4 b).0 (ap (λ (r : List ℕ). ((run_of 4 b).0, r)) none)

-- a row that isn't empty has prefixes
pub row-some : (ps : List PrefixValue) (b : List ℕ) → Row (IsPrefix 4) ps b → ltb 0 (length ps) ≡ ltb 0 (length b)
row-some [] b row = ap (λ (x : List ℕ). ltb 0 (length x)) (sym row)
row-some (p ∷ ps) b row =
    lt-ltb 0 (length {A = PrefixValue} (p ∷ ps)) (omega arith)
    ∙ sym (lt-ltb 0 (length b) (omega (arith, ap length row.2, length-append row.0 row.1, IsPrefix-length 4 p row.0 row.3)))

-- ---- tests

and-not : (b n : Bool) → (b ≡ true → n ≡ true) → (b && not n) ≡ false
and-not true n so = not_from_true n (so refl)
and-not false n so = refl

and-then : (b has none : Bool) → (b && not has) ≡ false → (b ≡ true → has ≡ true → none ≡ false) → (b && none) ≡ false
and-then true true none e so = so refl refl
and-then true false none e so = absurd (true≢false e)
and-then false has none e so = refl

and-both : (b x y : Bool) → (b && x) ≡ false → (b && y) ≡ false → (b && (x || y)) ≡ false
and-both true x y e f = or_from x y e f
and-both false x y e f = refl

as4-all : (as4 : Bool) (xs : List Attr) → AllByRecursion (λ x. (as4 && is_as4 x) ≡ false) xs → (as4 && list_any is_as4 xs) ≡ false
as4-all true [] all = refl
as4-all true (x ∷ xs) all = or_from (is_as4 x) (list_any is_as4 xs) all.0 (as4-all true xs all.1)
as4-all false xs all = refl

-- ---- where attributes belong

module _ (ctx : Context) (nlri : Bool) where
  hop-needs : (o : Option (List ℕ)) → AllByRecursion (Belongs ctx nlri) (present (λ (addr : List ℕ). attr.NextHop addr) o) → is_some o ≡ true → nlri ≡ true
  hop-needs None placed e = absurd (false≢true e)
  hop-needs (Some addr) placed e = placed.0

  pref-needs : (o : Option ℕ) → AllByRecursion (Belongs ctx nlri) (present (λ (n : ℕ). attr.LocalPref n) o) → is_some o ≡ true → ctx.internal ≡ true
  pref-needs None placed e = absurd (false≢true e)
  pref-needs (Some n) placed e = placed.0

-- ---- a message of these parts without a reset

module _ (ctx : Context) (p : Parts) (octets_w : AreOctets p.withdrawn) (octets_a : AreOctets p.attributes) (octets_n : AreOctets p.nlri)
    (no_reset : reset_of p (marks_of ctx p) ≡ None) (stays : is_withdrawn p (marks_of ctx p) ≡ false) where
  abbrev nlri : Bool
  nlri = has_nlri p

  resets : (first_reset (marks_of ctx p) ≡ None) × (option_or (reset_of_run p.withdrawn) (reset_of_run p.nlri) ≡ None)
  resets = or-parts (first_reset (marks_of ctx p)) _ no_reset

  runs : (reset_of_run p.withdrawn ≡ None) × (reset_of_run p.nlri ≡ None)
  runs = or-parts (reset_of_run p.withdrawn) (reset_of_run p.nlri) resets.1

  row-w : Row (IsPrefix 4) (run_of 4 p.withdrawn).0 p.withdrawn
  row-w = run-row p.withdrawn runs.0

  row-n : Row (IsPrefix 4) (run_of 4 p.nlri).0 p.nlri
  row-n = run-row p.nlri runs.1

  withdrawals : (list_any (λ m. withdraws m.judged) (marks_of ctx p) ≡ false) × (is_missing (missing_of p (marks_of ctx p)) ≡ false)
  withdrawals = or_parts (list_any (λ m. withdraws m.judged) (marks_of ctx p)) _ stays

  all-go_on : AllByRecursion (λ m. GoesOn m.judged) (slots.whole ctx p octets_a)
  all-go_on =
      all-front (λ m. GoesOn m.judged) (slots.whole ctx p octets_a) (cut_mark (slots.at_end ctx p octets_a) (tlvs_of p.attributes).1)
      (subst (λ (ms : List Mark). AllByRecursion (λ m. GoesOn m.judged) ms) (slots.marks-are ctx p octets_a) (goes-on (marks_of ctx p) resets.0 withdrawals.0))

  abbrev kept : List Attr
  kept = kept_of (marks_of ctx p)

  abbrev a : Attrs
  a = attrs_of kept

  -- what holds of each attribute that was kept
  among : (P : Attr → Type 0) → ((x : Attr) → IsReady ctx nlri x → P x) → AllByRecursion P (attr_list a)
  among = slots.each-slot ctx p octets_a

  none-among : (test : Attr → Bool) → ((x : Attr) → Writes ctx x → test x ≡ false) → list_any test (attr_list a) ≡ false
  none-among test so = all-none test (attr_list a) (among (λ x. test x ≡ false) (λ x r. so x (writable-Writes ctx x r.writable)))

  placed : AllByRecursion (Belongs ctx nlri) (attr_list a)
  placed = among (Belongs ctx nlri) (λ x r. r.in_place)

  abbrev taken : Update
  taken = update_of p (marks_of ctx p)

  nlri-same : written.has_nlri taken ≡ has_nlri p
  nlri-same = row-some (run_of 4 p.nlri).0 p.nlri row-n

  reachable-same : announces taken ≡ is_reachable p (marks_of ctx p)
  reachable-same = ap₂ (λ (x y : Bool). x || y) nlri-same refl

  -- the field of a type isn't empty where the message has the type
  has-field : {A : Type 0} (as_attr : A → Attr) (o : Option A) (kind : ℕ) → slot a kind ≡ present as_attr o → NotDropped ctx nlri kind → has_type kind p ≡ true → is_none o ≡ false
  has-field as_attr o kind is not_dropped has =
      field-lacks kept (slots.named ctx p octets_a) (slots.is-kept ctx p octets_a).fresh as_attr o kind is
      ∙ ap (λ (xs : List Attr). not (list_any (λ x. eqb (type_of x) kind) xs)) (slots.kept-is ctx p octets_a)
      ∙ ap not (has-kept ctx nlri kind not_dropped (tlvs_of p.attributes).0 0 none_of_them refl all-go_on has)

  complete : lacks_some taken ≡ false
  complete =
      let missing = or_parts (is_reachable p (marks_of ctx p) && not (has_type ORIGIN p)) _ withdrawals.1 in
      let later = or_parts (is_reachable p (marks_of ctx p) && not (has_type AS_PATH p)) _ missing.1 in
      let origin = and-then (is_reachable p (marks_of ctx p)) (has_type ORIGIN p) (is_none a.origin) missing.0 (λ b. has-field attr.Origin a.origin ORIGIN (slot-at a ORIGIN) (origin-not_dropped ctx nlri)) in
      let as_path = and-then (is_reachable p (marks_of ctx p)) (has_type AS_PATH p) (is_none a.as_path) later.0 (λ b. has-field attr.AsPath a.as_path AS_PATH (slot-at a AS_PATH) (as_path-not_dropped ctx nlri)) in
      let next_hop = and-then (has_nlri p) (has_type NEXT_HOP p) (is_none a.next_hop) later.1 (λ given. has-field attr.NextHop a.next_hop NEXT_HOP (slot-at a NEXT_HOP) (next_hop-not_dropped ctx nlri given)) in
      or_from _ _
      (ap (λ (b : Bool). b && (is_none a.origin || is_none a.as_path)) reachable-same
      ∙ and-both (is_reachable p (marks_of ctx p)) (is_none a.origin) (is_none a.as_path) origin as_path)
      (ap (λ (b : Bool). b && is_none a.next_hop) nlri-same ∙ next_hop)

  accepted : IsAccepted ctx taken
  accepted = record {
    complete = complete;
    next_hop = and-not (is_some a.next_hop) (written.has_nlri taken) (λ e. nlri-same ∙ hop-needs ctx nlri a.next_hop (field-all (Belongs ctx nlri) a NEXT_HOP refl placed) e);
    local_pref = and-not (is_some a.local_pref) ctx.internal (pref-needs ctx nlri a.local_pref (field-all (Belongs ctx nlri) a LOCAL_PREF refl placed));
    narrow = none-among (is_too_wide ctx) (λ x w. w.narrow);
    allowed = as4-all ctx.as4 (attr_list a) (among (λ x. (ctx.as4 && is_as4 x) ≡ false) (λ x r. (let w : Writes ctx x = writable-Writes ctx x r.writable in w.allowed)));
    family = all-none (is_out_of_place ctx) (attr_list a) (among (λ x. is_out_of_place ctx x ≡ false) (λ x r. has-place ctx nlri x r.in_place));
    some = none-among is_empty (λ x w. w.some);
    others = slots.others-good ctx p octets_a;
    nonzero = none-among has_as_zero (λ x w. w.nonzero);
    once = none-among stands_twice (λ x w. w.once);
  }

  has-ranges : HasUpdateRanges taken
  has-ranges =
      record {
        withdrawn = prefixes-valid 4 (run_of 4 p.withdrawn).0 p.withdrawn octets_w row-w;
        attributes = among HasRanges (λ x r. r.ranges);
        others = slots.others-small ctx p octets_a;
        nlri = prefixes-valid 4 (run_of 4 p.nlri).0 p.nlri octets_n row-n;
      }

  no-longer : (body : List ℕ) → IsBody p body → length (written_body ctx taken) ≤ length body
  no-longer body s =
      let w : length (run_octets (run_of 4 p.withdrawn).0) ≡ length p.withdrawn = (Row-rewritten 4 (run_of 4 p.withdrawn).0 p.withdrawn octets_w row-w).1 in
      let n : length (run_octets (run_of 4 p.nlri).0) ≡ length p.nlri = (Row-rewritten 4 (run_of 4 p.nlri).0 p.nlri octets_n row-n).1 in
      let to : length (written_body ctx taken) ≡ 4 + (length (run_octets (run_of 4 p.withdrawn).0) + (length (attributes_octets ctx a) + length (run_octets (run_of 4 p.nlri).0))) =
      length-body (run_octets (run_of 4 p.withdrawn).0) (attributes_octets ctx a) (run_octets (run_of 4 p.nlri).0) in
      let from : length body ≡ 4 + (length p.withdrawn + (length p.attributes + length p.nlri)) = ap length s.octets ∙ length-body p.withdrawn p.attributes p.nlri in
      omega (arith, to, from, w, n, slots.attributes-shorter ctx p octets_a)

  can-be-written : (body : List ℕ) → IsBody p body → CanBeWritten ctx taken body
  can-be-written body s = record { valid = accepted-valid ctx taken accepted; ranges = has-ranges; no_longer = no-longer body s }

-- ---- the verdict

pub taken-written : (ctx : Context) (body : List ℕ) (u : Update) (notes : List Note) → AreOctets body → verdict_of ctx body ≡ verdict.Take u notes → CanBeWritten ctx u body
taken-written ctx body u notes octets e =
    let is = taken-of ctx body u notes e in
    let p = has-parts body is.parts octets is.found in
    subst (λ (v : Update). CanBeWritten ctx v body) is.update (can-be-written ctx is.parts p.withdrawn p.attributes p.nlri is.no_reset is.goes_on body p.is_body)
