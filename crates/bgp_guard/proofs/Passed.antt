-- What is passed on of a message, as octets.
use Rattle.bgp_guard.proofs.Prelude.{◌≡◌, ℕ, ◌<◌, ◌≤◌, Bool, true, false, cond, List, [], ◌∷◌, length, drop, Option, Some, None, Result, Ok, Err, refl, sym, ap, subst}
use Rattle.bgp_guard.proofs.Prelude.{◌∙◌, arith, append-nil, length-append, AllByRecursion, AreOctets, inl, inr, map, Kind, WideKind, IsFrame, IsFrameIn, Agreed, Context, Framed, types, Open, open_notification, reading_of, Notification}
use Rattle.bgp_guard.proofs.Prelude.{Verdict, verdict_of, Message, WideMessage, base, bases, Outcome, of_open_fault, of_reading, of_verdict, canonical}
use Rattle.bgp_guard.proofs.Prelude.{written, CleanFault, cleaned_in, cleaned_kind, cleaned_refresh, cleaned_with, cleaned_outcome, ended_family, handed_refresh, octets_handed, octets_handed_in, or_keepalive, parts_handed, IsCleanedIn, IsCleanWith, cleaned_open_with, lacks_family}
use Rattle.bgp_guard.proofs.Prelude.{cleaned_update, withdrawal, CanBeRead, IsReadOpen, IsReadUpdate, IsReadIn}
use Rattle.bgp_frame.specs.declared.kind.WideKind.TheVariants as wide
use Rattle.bgp_terms.specs.declared.refreshes.Refreshes.TheVariants as refreshes
use Rattle.bgp_refresh.specs.declared.fault.RefreshFault.{RefreshFault}
use Rattle.bgp_refresh.specs.Prelude.{Refresh, refresh_of}
use Rattle.bgp_wide.proofs.Bases.{base_frame}
use Rattle.bgp_clean.specs.Prelude.{is_heeded}
use Rattle.bgp_clean.proofs.Wides.{octets_same}
use Rattle.bgp_open.specs.declared.fault.OpenFault.{OpenFault}
use Rattle.bgp_update.specs.declared.update.Update.{Update}
use Rattle.bgp_msg.specs.Prelude.{IsTakenAsItself}
use Rattle.bgp_clean.specs.Clean as updates
use Rattle.bgp_clean.specs.declared.cleaned.Cleaned.{Cleaned}
use Rattle.bgp_clean.specs.declared.cleaned.Cleaned.TheVariants.{HandedOn, Ends}
use Rattle.bgp_clean.proofs.Handed.{handed-clean, ok-same, not_ok}

-- ---- an OPEN that is passed on is an OPEN, and is read as the same

abbrev ok : List Message → Result (List Message) CleanFault
ok ns = Ok ns

abbrev ok_in : List WideMessage → Result (List WideMessage) CleanFault
ok_in ns = Ok ns

same_in : (ms ns : List WideMessage) → ok_in ms ≡ ok_in ns → ms ≡ ns
same_in ms ns e = cc

not_in : (f : CleanFault) (ns : List WideMessage) → Err f ≡ ok_in ns → ⊥
not_in f ns e = absurd cc

handed_by : (o : Open) (ns : List Message) (lacks : Bool)
    → cond lacks (Err (Rattle.bgp_clean.specs.declared.fault.CleanFault.TheVariants.NoFamily)) (ok (Message.Open (cleaned_open_with refreshes.Plain o) ∷ [])) ≡ ok ns
    → (p : Open) × (ns ≡ Message.Open p ∷ [])
handed_by o ns true e = absurd (not_ok _ ns e)
handed_by o ns false e = (cleaned_open_with refreshes.Plain o, sym (ok-same _ ns e))

fault_by : (drops : ℕ → Bool) (refuses : Update → Bool) (ns : List Message) (why : Option Notification) → cleaned_outcome refreshes.Plain drops refuses true None (of_open_fault why) ≡ ok ns
    → (p : Open) × (ns ≡ Message.Open p ∷ [])
fault_by drops refuses ns None e = absurd (not_ok _ ns e)
fault_by drops refuses ns (Some why) e = absurd (not_ok _ ns e)

pub open_by : (drops : ℕ → Bool) (refuses : Update → Bool) (ns : List Message) (r : Result Open OpenFault) → cleaned_outcome refreshes.Plain drops refuses true None (of_reading r) ≡ ok ns
    → (p : Open) × (ns ≡ Message.Open p ∷ [])
open_by drops refuses ns (Ok o) e = handed_by o ns (lacks_family o) e
open_by drops refuses ns (Err fault) e = fault_by drops refuses ns (open_notification fault) e

-- the same of the messages that are passed on by terms
pub open_in : (drops : ℕ → Bool) (refuses : Update → Bool) (ns : List WideMessage) (r : Result Open OpenFault) → bases (cleaned_outcome refreshes.Plain drops refuses true None (of_reading r)) ≡ ok_in ns
    → (p : Open) × (ns ≡ base (Message.Open p) ∷ [])
open_in drops refuses ns r e = by (cleaned_outcome refreshes.Plain drops refuses true None (of_reading r)) refl e
  where
    by : (found : Result (List Message) CleanFault) → cleaned_outcome refreshes.Plain drops refuses true None (of_reading r) ≡ found → bases found ≡ ok_in ns → (p : Open) × (ns ≡ base (Message.Open p) ∷ [])
    by (Ok ms) is same =
        let found = open_by drops refuses ms r is in
        (found.0, sym (same_in (map base ms) ns same) ∙ ap (map base) found.1)
    by (Err fault) is same = absurd (not_in fault ns same)

-- the OPEN that was read
abbrev took : Open → Outcome
took o = Outcome.Took (Message.Open o) []

same_open : (o p : Open) → took o ≡ took p → o ≡ p
same_open o p e = cc

no_open : (why : Option Notification) (p : Open) → of_open_fault why ≡ took p → ⊥
no_open None p e = absurd cc
no_open (Some n) p e = absurd cc

read_by : (r : Result Open OpenFault) (p : Open) → of_reading r ≡ took p → r ≡ Ok p
read_by (Ok o) p e = ap (λ (x : Open). Ok x) (same_open o p e)
read_by (Err fault) p e = absurd (no_open (open_notification fault) p e)

-- ---- what is passed on of an UPDATE

-- one KEEPALIVE, or UPDATEs
abbrev AreUpdatesOrNone : List Message → Type 0
AreUpdatesOrNone (Message.Update u ∷ later) = Unit {0}
AreUpdatesOrNone (Message.Keepalive ∷ []) = Unit {0}
AreUpdatesOrNone _ = ⊥

parts_or : (us : List Update) → AreUpdatesOrNone (or_keepalive us)
parts_or [] = tt
parts_or (u ∷ us) = tt

handed_update : (refuses : Update → Bool) (family : Option ℕ) (u : Update) (ns : List Message) → ok (updates.handed_update refuses family u) ≡ ok ns → AreUpdatesOrNone ns
handed_update refuses (Some family) u ns e = subst AreUpdatesOrNone (ok-same _ ns e) tt
handed_update refuses None u ns e = subst AreUpdatesOrNone (ok-same _ ns e) (parts_or (parts_handed refuses u))

update_by : (drops : ℕ → Bool) (refuses : Update → Bool) (family : Option ℕ) (ns : List Message) (v : Verdict) → cleaned_outcome refreshes.Plain drops refuses true family (of_verdict v) ≡ ok ns
    → AreUpdatesOrNone ns
update_by drops refuses family ns (Verdict.Take u notes) e = handed_update refuses family (cleaned_update drops u) ns e
update_by drops refuses family ns (Verdict.Withdraw routes notes) e = subst AreUpdatesOrNone (ok-same (Message.Update (withdrawal routes) ∷ []) ns e) tt
update_by drops refuses family ns (Verdict.Reset why) e = absurd (not_ok _ ns e)

-- their length shows which they are
read_update : (ctx : Context) (ns : List Message) (octets : List ℕ) → AreUpdatesOrNone ns → octets ≡ octets_handed ctx ns → AllByRecursion (IsTakenAsItself ctx) ns → IsReadUpdate (map base ns) octets
read_update ctx (Message.Update u ∷ later) octets of is all =
    let least : 23 ≤ length (canonical ctx (Message.Update u)) = (all.0).whole.allowed.least in
    subst (λ (b : List ℕ). 23 ≤ length b) (sym is) (omega (arith, least, length-append (canonical ctx (Message.Update u)) (octets_handed ctx later)))
read_update ctx (Message.Keepalive ∷ []) octets of is all = ap length is
read_update ctx (Message.Keepalive ∷ n ∷ later) octets of is all = absurd of
read_update ctx (Message.Open o ∷ later) octets of is all = absurd of
read_update ctx (Message.Notification n ∷ later) octets of is all = absurd of
read_update ctx [] octets of is all = absurd of

-- and of a ROUTE-REFRESH
read_refresh : (terms : Agreed) (t : Bool) (r : Refresh) (octets : List ℕ)
    → octets ≡ octets_handed_in terms (cond t (inr (record r { rest = [] })) (inl Message.Keepalive) ∷ [])
    → IsReadUpdate (cond t (inr (record r { rest = [] })) (inl Message.Keepalive) ∷ []) octets
read_refresh terms true r octets is = let long = ap length is in omega (arith, long)
read_refresh terms false r octets is = ap length is

-- ---- a message that is passed on, as octets

pub record IsPassed (terms : Agreed) (drops : ℕ → Bool) (refuses : Update → Bool) (m : Framed) (octets : List ℕ) : Type 0 where
  pub messages : List WideMessage
  pub is : cleaned_in refreshes.Plain terms drops refuses true m ≡ Ok messages
  pub written : octets ≡ octets_handed_in terms messages
  pub read : IsReadIn m.kind messages octets
  pub least : CanBeRead m.kind octets

some_read : (ms : List Message) → 0 < length ms → 0 < length (map base ms)
some_read [] some = absurd (omega (arith, some))
some_read (n ∷ later) some = omega arith

module _ (ctx : Context) (drops : ℕ → Bool) (refuses : Update → Bool) where
  reads : (k : Kind) (body octets : List ℕ) (ns : List Message) → octets ≡ octets_handed ctx ns → cleaned_with refreshes.Plain ctx drops refuses true (record { kind = k; body = body }) ≡ ok ns
      → IsCleanWith refreshes.Plain ctx drops refuses true (record { kind = k; body = body }) ns → IsReadIn (wide.Base k) (map base ns) octets × CanBeRead (wide.Base k) octets
  reads Kind.Open body octets ns is e clean =
      let found = open_by drops refuses ns (reading_of body) e in
      by found.0 found.1
    where
      by : (o : Open) → ns ≡ Message.Open o ∷ [] → IsReadOpen (map base ns) octets × (29 ≤ length octets)
      by o same =
          let all : AllByRecursion (IsTakenAsItself ctx) (Message.Open o ∷ []) = subst (λ (x : List Message). AllByRecursion (IsTakenAsItself ctx) x) same clean.taken in
          let whole : IsFrame (written ctx (Message.Open o)) (canonical ctx (Message.Open o)) = (all.0).whole in
          let are : octets ≡ canonical ctx (Message.Open o) = is ∙ ap (octets_handed ctx) same ∙ append-nil (canonical ctx (Message.Open o)) in (
            record { value = o; is = ap (map base) same; reads = ap (λ (b : List ℕ). reading_of (drop 19 b)) are ∙ read_by _ o (all.0).taken },
            subst (λ (b : List ℕ). 29 ≤ length b) (sym are) whole.allowed.least,
          )
  reads Kind.Update body octets ns is e clean =
      let of = update_by drops refuses (ended_family ctx (record { kind = Kind.Update; body = body })) ns (verdict_of ctx body) e in
      (read_update ctx ns octets of is clean.taken, tt)
  reads Kind.Notification body octets ns is e clean = (some_read ns clean.some, tt)
  reads Kind.Keepalive body octets ns is e clean = (some_read ns clean.some, tt)

module _ (terms : Agreed) (drops : ℕ → Bool) (refuses : Update → Bool) where
  -- what is cleaned is passed on
  base_passed : (k : Kind) (body whole octets : List ℕ) → AreOctets whole → IsFrameIn types (record { kind = wide.Base k; body = body }) whole
      → IsCleanedIn terms (cleaned_kind refreshes.Plain terms drops refuses true (wide.Base k) body) [] octets HandedOn → IsPassed terms drops refuses (record { kind = wide.Base k; body = body }) octets
  base_passed k body whole octets are f is = by (cleaned_with refreshes.Plain terms.context drops refuses true (record { kind = k; body = body })) refl is
    where
      by : (r : Result (List Message) CleanFault) → cleaned_with refreshes.Plain terms.context drops refuses true (record { kind = k; body = body }) ≡ r
          → IsCleanedIn terms (bases r) [] octets HandedOn → IsPassed terms drops refuses (record { kind = wide.Base k; body = body }) octets
      by (Ok ns) e came =
          let clean = handed-clean refreshes.Plain terms.context drops refuses true (record { kind = k; body = body }) whole ns are (base_frame true k body whole f) e in
          let r = reads terms.context drops refuses k body octets ns (came ∙ octets_same terms ns) e clean in
          record { messages = map base ns; is = ap bases e; written = came; read = r.0; least = r.1 }
      by (Err fault) e came = absurd came

  refresh_passed : (body octets : List ℕ) → IsCleanedIn terms (cleaned_refresh terms.context body (refresh_of terms.refresh body)) [] octets HandedOn
      → IsPassed terms drops refuses (record { kind = wide.Refresh; body = body }) octets
  refresh_passed body octets is = by (refresh_of terms.refresh body) refl is
    where
      by : (r : Result Refresh RefreshFault) → refresh_of terms.refresh body ≡ r → IsCleanedIn terms (cleaned_refresh terms.context body r) [] octets HandedOn
          → IsPassed terms drops refuses (record { kind = wide.Refresh; body = body }) octets
      by (Ok r) e came = record {
        messages = handed_refresh terms.context r;
        is = ap (cleaned_refresh terms.context body) e;
        written = came;
        read = read_refresh terms (is_heeded terms.context r) r octets came;
        least = tt;
      }
      by (Err fault) e came = absurd came

  kind_passed : (k : WideKind) (body whole octets : List ℕ) → AreOctets whole → IsFrameIn types (record { kind = k; body = body }) whole
      → IsCleanedIn terms (cleaned_kind refreshes.Plain terms drops refuses true k body) [] octets HandedOn → IsPassed terms drops refuses (record { kind = k; body = body }) octets
  kind_passed (wide.Base k) body whole octets are f is = base_passed k body whole octets are f is
  kind_passed wide.Refresh body whole octets are f is = refresh_passed body octets is

  abbrev found : Framed → Result (List WideMessage) CleanFault
  found m = cleaned_in refreshes.Plain terms drops refuses true m

  -- the same of an empty page
  pub passed_page : (m : Framed) (whole fresh out octets : List ℕ) (came : Cleaned) → AreOctets whole → IsFrameIn types m whole → fresh ≡ [] → came ≡ HandedOn → octets ≡ out
      → IsCleanedIn terms (found m) fresh out came → IsPassed terms drops refuses m octets
  passed_page m whole fresh out octets came are f none on same is =
      subst (IsPassed terms drops refuses m) (sym same) (kind_passed m.kind m.body whole out are f (subst (λ (b : List ℕ). IsCleanedIn terms (found m) b out HandedOn) none
      (subst (IsCleanedIn terms (found m) fresh out) on is)))

  -- or isn't
  pub stopped : (m : Framed) (fresh out : List ℕ) (came : Cleaned) (why : CleanFault) → came ≡ Ends why → IsCleanedIn terms (found m) fresh out came
      → (f : CleanFault) × (found m ≡ Err f)
  stopped m fresh out came why ends is = by (found m) refl (subst (IsCleanedIn terms (found m) fresh out) ends is)
    where
      by : (r : Result (List WideMessage) CleanFault) → found m ≡ r → IsCleanedIn terms r fresh out (Ends why) → (f : CleanFault) × (found m ≡ Err f)
      by (Ok ns) e got = absurd got
      by (Err fault) e got = (fault, e)
