-- The octets at the reported offsets of an UPDATE are its paths and communities.
use Rattle.ristulva_c.proofs.Below.{◌≡◌, ℕ, ◌+◌, ◌≤◌, true, eqb, List, length, take, Option, Some, None, sym, ap, ◌∙◌, find, is_some, option_map, AS_PATH, AS4_PATH, COMMUNITIES, LARGE_COMMUNITY, AreOctets, Message, IsFrame, Kind, Context, numbers_of, triples_of, each_once, path_of, PlacedTlv, as_path_form, as4_path_form, Communities, LargeCommunities, As4Path, Attrs, marks_of, placed_tlvs, Parts, parts_of, kept_of, attrs_of, Outcome, out_of}
use Rattle.ristulva_c.specs.Prelude.{attrs_in, PathsLie, paths_told, parts_told, fields_of, Lie, first_of_type, value_at, value_in, kept_at, octets_in}
use Rattle.ristulva_c.proofs.FirstPlaces.{found_lies}
use Rattle.ristulva_c.proofs.KeptPlaces.{path_first, as4_path_first, communities_first, large_first}
use Rattle.ristulva_c.proofs.Outcomes.{by_kind}
use Rattle.ristulva_c.proofs.PartPlaces.{lie}
use Rattle.ristulva_c.proofs.RouteLists.{room_in, value_there}

-- ---- the reported offset

pub value_of_fields : (kind : ℕ) (o : Option Parts) (w n : ℕ) (f : List ℕ) (q : Option PlacedTlv) → Some (w, f, n) ≡ option_map fields_of o → q ≡ find (λ t. eqb t.tlv.kind kind) (placed_tlvs f) → value_at (23 + w) q ≡ value_in kind o
value_of_fields kind None w n f q is found = absurd cc
value_of_fields kind (Some p) w n f q is found =
    let same : (w, f, n) ≡ fields_of p = cc in
    ap (value_at (23 + w)) found ∙ (λ i. value_at (23 + (same i).0) (find (λ t. eqb t.tlv.kind kind) (placed_tlvs (same i).1)))

-- ---- the attributes of an UPDATE that is accepted

-- they are those that are kept of its parts
pub record AreKept (ctx : Context) (body : List ℕ) (a : Attrs) : Type 0 where
  pub parts : Parts
  pub whole : parts_of body ≡ Some parts
  pub kept : a ≡ attrs_of (kept_of (marks_of ctx parts))

pub are_kept : (ctx : Context) (body : List ℕ) (a : Attrs) (k : Kind) → attrs_in (out_of ctx (record { kind = k; body = body })) ≡ Some a → AreKept ctx body a
are_kept ctx body a k =
    let none : None ≡ Some a → AreKept ctx body a = λ is. absurd cc in
    by_kind ctx body (λ (o : Outcome). attrs_in o ≡ Some a → AreKept ctx body a) (record { reset = λ n. none; open_taken = λ o. none; notification = λ n. none; keepalive = none })
    (λ p whole is. record { parts = p; whole = whole; kept = let same : Some (attrs_of (kept_of (marks_of ctx p))) ≡ Some a = is in cc })
    (λ p whole. none) k

-- ---- the octets there

module _ (ctx : Context) (octets : List ℕ) (p : Parts) (lies : Lie octets p (parts_told (Some p))) (room : 23 + length p.withdrawn + length p.attributes + length p.nlri ≤ length octets) where
  there : (kind : ℕ) (q : PlacedTlv) → first_of_type kind p ≡ Some q → octets_in (value_in kind (Some p)) octets ≡ q.tlv.value
  there kind q first =
      ap (λ (o : Option PlacedTlv). octets_in (value_at (23 + length p.withdrawn) o) octets) first
      ∙ value_there octets p lies room q (found_lies (λ t. eqb t.tlv.kind kind) p.attributes q first)

  kept_there : {A : Type 0} (o : Option A) (r : A) (kind : ℕ) (parts : Option Parts) (q : PlacedTlv) → o ≡ Some r → parts ≡ Some p → first_of_type kind p ≡ Some q
      → octets_in (kept_at (is_some o) kind parts) octets ≡ q.tlv.value
  kept_there o r kind parts q has whole first = (λ i. octets_in (kept_at (is_some (has i)) kind (whole i)) octets) ∙ there kind q first

  paths_lie : (a : Attrs) (parts : Option Parts) → parts ≡ Some p → a ≡ attrs_of (kept_of (marks_of ctx p)) → PathsLie ctx octets a (paths_told parts a)
  paths_lie a parts whole kept = record {
    as_path = λ r has.
        let f = path_first ctx p r (sym (ap (λ (x : Attrs). x.as_path) kept) ∙ has) in
        ap (path_of (as_path_form ctx)) (kept_there a.as_path r AS_PATH parts f.place has whole f.first) ∙ sym f.holds;
    as4_path = λ r has.
        let f = as4_path_first ctx p r (sym (ap (λ (x : Attrs). x.as4_path) kept) ∙ has) in
        ap (path_of as4_path_form) (kept_there a.as4_path r AS4_PATH parts f.place has whole f.first) ∙ sym (ap (λ (w : As4Path). w.path) f.holds);
    communities = λ r has.
        let f = communities_first ctx p r (sym (ap (λ (x : Attrs). x.communities) kept) ∙ has) in
        ap (numbers_of true) (kept_there a.communities r COMMUNITIES parts f.place has whole f.first) ∙ sym (ap (λ (c : Communities). c.values) f.holds);
    large_communities = λ r has.
        let f = large_first ctx p r (sym (ap (λ (x : Attrs). x.large) kept) ∙ has) in
        ap (λ (b : List ℕ). each_once (triples_of b)) (kept_there a.large r LARGE_COMMUNITY parts f.place has whole f.first) ∙ sym (ap (λ (l : LargeCommunities). l.values) f.holds);
  }

pub all_lie : (ctx : Context) (octets : List ℕ) (n : ℕ) (m : Message) (a : Attrs) → AreOctets octets → IsFrame m (take n octets) → attrs_in (out_of ctx m) ≡ Some a
    → PathsLie ctx octets a (paths_told (parts_of m.body) a)
all_lie ctx octets n m a are frame is =
    let k = are_kept ctx m.body a m.kind is in
    paths_lie ctx octets k.parts (lie octets n m k.parts are frame k.whole) (room_in octets n m are frame k.parts k.whole) a (parts_of m.body) k.whole k.kept
