-- What is written with path identifiers is read back.
use Rattle.bgp_wire.proofs.Std.{◌≡◌, ℕ, ◌<◌, ◌≤◌, ◌^◌, Bool, true, false, cond, leb, List, [], ◌∷◌, ◌++◌, length, map, take, drop, Option, Some, None, refl, sym, ap, ◌∙◌, arith, flat_map, subst, to_be_bytes, from_be_bytes, w32}
use Rattle.std.specs.List.{AllByRecursion}
use Rattle.std.proofs.lemmas.List.{append-nil, length-append}
use Rattle.std.proofs.lemmas.Nat.{from_be_bytes-to_be_bytes_4}
use Rattle.bgp_wire.specs.Prelude.{AreOctets, Row}
use Rattle.bgp_wire.proofs.OctetLemmas.{AreOctets-front, AreOctets-back}
use Rattle.bgp_wire.proofs.Pieces.{Splits-pieces, pieces-none, pieces-row}
use Rattle.bgp_wire.proofs.Walks.{nothing_at}
use Rattle.bgp_prefix.specs.Prelude.{IsPrefix, PrefixValue, one_prefix, run_of, spelling_of}
use Rattle.bgp_prefix.proofs.PrefixLemmas.{IsPrefix-reads, IsPrefix-spelling_of, IsPrefix-valid}
use Rattle.bgp_attr.specs.Prelude.{IsTlv, TlvValue, is_extended, length_octets, one_tlv, tlvs_of}
use Rattle.bgp_attr.proofs.Readers.{IsTlv-reads}
use Rattle.bgp_update.specs.Prelude.{IsBody, Parts, parts_of}
use Rattle.bgp_update.proofs.Bodies.{body-parts, length-body}
use Rattle.bgp_paths.specs.declared.families.PathFamilies.{PathFamilies}
use Rattle.bgp_paths.specs.declared.families.Width.{Width}
use Rattle.bgp_paths.specs.Prelude.{FieldNumbers, IsPathPrefix, PathPrefixValue, body_of, body_with, field_with, first_or_zero, head_length, identified, later_of, mp_flags, mp_tlv, numbers_for, numbers_of, octets_of_parts, octets_with, one_path_prefix, paired, parts_with, path_run_of, route_octets, routes_with, tlv_at_head, tlv_behind, tlv_with, width_of, with_numbers}
use Rattle.bgp_paths.proofs.Lengths.{tlv_length, two_or_one}
use Rattle.bgp_paths.proofs.Routes.{IsPathPrefix-reads}
use Rattle.bgp_paths.proofs.Same.{counted_at}

-- ---- routes

abbrev AreNumbers : List ℕ → Type 0
AreNumbers ns = AllByRecursion (λ n. n < 2 ^ 32) ns

first_small : (ns : List ℕ) → AreNumbers ns → first_or_zero ns < 2 ^ 32
first_small [] are = omega arith
first_small (n ∷ ns) are = are.0

later_small : (ns : List ℕ) → AreNumbers ns → AreNumbers (later_of ns)
later_small [] are = tt
later_small (n ∷ ns) are = are.1

no_route : (width : ℕ) → one_path_prefix width [] ≡ None
unfolding one_path_prefix
no_route width = refl

module _ (width : ℕ) where
  route_at : (bs read : List ℕ) (r : PathPrefixValue) → length bs ≡ 4 → r.path ≡ from_be_bytes w32 bs → IsPrefix width r.prefix read → IsPathPrefix width r (bs ++ read)
  route_at [] read r four is s = absurd (omega (arith, four))
  route_at (a ∷ []) read r four is s = absurd (omega (arith, four))
  route_at (a ∷ b ∷ []) read r four is s = absurd (omega (arith, four))
  route_at (a ∷ b ∷ c ∷ []) read r four is s = absurd (omega (arith, four))
  route_at (a ∷ b ∷ c ∷ d ∷ []) read r four is s = record { a = a; b = b; c = c; d = d; read = read; whole = refl; number = is; spelled = s }
  route_at (a ∷ b ∷ c ∷ d ∷ e ∷ bs) read r four is s = absurd (omega (arith, four))

  route_spelled : (n : ℕ) (p : PrefixValue) (read : List ℕ) → n < 2 ^ 32 → AreOctets read → IsPrefix width p read → IsPathPrefix width (record { path = n; prefix = p }) (route_octets n p)
  route_spelled n p read small octets s =
      route_at (to_be_bytes w32 n) (spelling_of p) (record { path = n; prefix = p }) refl (sym (from_be_bytes-to_be_bytes_4 n small)) (IsPrefix-spelling_of width p (IsPrefix-valid width p read octets s))

  -- prefixes that are written with path identifiers are a row of routes
  paired_row : (ns : List ℕ) (ps : List PrefixValue) (row : List ℕ) → AreNumbers ns → AreOctets row → Row (IsPrefix width) ps row → Row (IsPathPrefix width) (paired ns ps) (with_numbers ns ps)
  paired_row ns [] row are octets r = refl
  paired_row ns (p ∷ ps) row are octets r =
      let both : AreOctets (r.0 ++ r.1) = subst AreOctets r.2 octets in (
        route_octets (first_or_zero ns) p,
        with_numbers (later_of ns) ps,
        refl,
        route_spelled (first_or_zero ns) p r.0 (first_small ns are) (AreOctets-front r.0 r.1 both) r.3,
        paired_row (later_of ns) ps r.1 (later_small ns are) (AreOctets-back r.0 r.1 both) r.4,
      )

  none_left : path_run_of width [] ≡ ([], [])
  none_left = pieces-none PathPrefixValue (IsPathPrefix width) (one_path_prefix width) (IsPathPrefix-reads width) [] (no_route width)

  pub routes_back : (ns b : List ℕ) → AreNumbers ns → AreOctets b → (run_of width b).1 ≡ [] → path_run_of width (routes_with width ns b) ≡ (paired ns (run_of width b).0, [])
  routes_back ns b are octets whole =
      let s = Splits-pieces PrefixValue (IsPrefix width) (one_prefix width) (IsPrefix-reads width) b in
      let row : AreOctets s.row = AreOctets-front s.row (run_of width b).1 (subst AreOctets s.whole octets) in
      let ps = (run_of width b).0 in
      ap (λ (rest : List ℕ). path_run_of width (with_numbers ns ps ++ rest)) whole
      ∙ pieces-row PathPrefixValue (IsPathPrefix width) (one_path_prefix width) (IsPathPrefix-reads width) (paired ns ps) (with_numbers ns ps) [] (paired_row ns ps s.row are row s.spelled)
      ∙ ap (λ (q : List PathPrefixValue × List ℕ). (paired ns ps ++ q.0, q.1)) none_left
      ∙ ap (λ (rs : List PathPrefixValue). (rs, [])) (append-nil (paired ns ps))

-- the prefixes of routes are these, and their path identifiers those
pub paired_prefixes : (ns : List ℕ) (ps : List PrefixValue) → map (λ (r : PathPrefixValue). r.prefix) (paired ns ps) ≡ ps
paired_prefixes ns [] = refl
paired_prefixes ns (p ∷ ps) = ap (λ (qs : List PrefixValue). p ∷ qs) (paired_prefixes (later_of ns) ps)

pub paired_numbers : (ns : List ℕ) (ps : List PrefixValue) → length ns ≡ length ps → numbers_of (paired ns ps) ≡ ns
paired_numbers [] [] e = refl
paired_numbers [] (p ∷ ps) e = absurd (omega (arith, e))
paired_numbers (n ∷ ns) [] e = absurd (omega (arith, e))
paired_numbers (n ∷ ns) (p ∷ ps) e = ap (λ (ms : List ℕ). n ∷ ms) (paired_numbers ns ps (omega (arith, e)))

-- ---- attributes

-- an attribute with routes, as it is written
mp_spelled : (kind : ℕ) (value : List ℕ) → length (mp_tlv kind value).whole < 2 ^ 16 → IsTlv (mp_tlv kind value) (mp_tlv kind value).whole
mp_spelled kind value lt =
    let flags = mp_flags (length value) in
    record {
      size = length_octets flags (length value);
      octets = refl;
      wide = two_or_one (is_extended flags) (length value);
      counted = counted_at (is_extended flags) (length value) (omega (arith, lt, tlv_length flags kind value));
      whole = refl;
    }

either_spelled : (c : Bool) (t u : TlvValue) → (length t.whole < 2 ^ 16 → IsTlv t t.whole) → IsTlv u u.whole → length (cond c t u).whole < 2 ^ 16 → IsTlv (cond c t u) (cond c t u).whole
either_spelled true t u this other lt = this lt
either_spelled false t u this other lt = other

behind_spelled : (family : Option Width) (n : ℕ) (ns : List ℕ) (t : TlvValue) → IsTlv t t.whole → length (tlv_behind family n ns t).whole < 2 ^ 16 → IsTlv (tlv_behind family n ns t) (tlv_behind family n ns t).whole
behind_spelled None n ns t s lt = s
behind_spelled (Some width) n ns t s lt =
    let value = take n t.value ++ routes_with (width_of width) ns (drop n t.value) in
    either_spelled (leb n (length t.value)) (mp_tlv t.kind value) t (mp_spelled t.kind value) s lt

head_spelled : (f : PathFamilies) (ns : FieldNumbers) (t : TlvValue) → IsTlv t t.whole → (head : Option ℕ) → length (tlv_at_head f ns t head).whole < 2 ^ 16 → IsTlv (tlv_at_head f ns t head) (tlv_at_head f ns t head).whole
head_spelled f ns t s None lt = s
head_spelled f ns t s (Some n) lt = behind_spelled (identified f t.value) n (numbers_for ns t.kind) t s lt

spelled_alone : (t : TlvValue) (b : List ℕ) → IsTlv t b → IsTlv t t.whole
spelled_alone t b s = record { size = s.size; octets = s.whole ∙ s.octets; wide = s.wide; counted = s.counted; whole = refl }

module _ (f : PathFamilies) (ns : FieldNumbers) where
  with_row : (ts : List TlvValue) (row : List ℕ) → Row IsTlv ts row → length (flat_map (octets_with f ns) ts) < 2 ^ 16 → Row IsTlv (map (tlv_with f ns) ts) (flat_map (octets_with f ns) ts)
  with_row [] row p lt = refl
  with_row (t ∷ ts) row p lt =
      let sum = length-append (octets_with f ns t) (flat_map (octets_with f ns) ts) in (
        octets_with f ns t,
        flat_map (octets_with f ns) ts,
        refl,
        head_spelled f ns t (spelled_alone t p.0 p.3) (head_length t) (omega (arith, lt, sum)),
        with_row ts p.1 p.4 (omega (arith, lt, sum)),
      )

  pub attributes_back : (field : List ℕ) → length (field_with f ns field) < 2 ^ 16 → tlvs_of (field_with f ns field) ≡ (map (tlv_with f ns) (tlvs_of field).0, (tlvs_of field).1)
  attributes_back field lt =
      let s = Splits-pieces TlvValue IsTlv one_tlv IsTlv-reads field in
      let ts : List TlvValue = map (tlv_with f ns) (tlvs_of field).0 in
      pieces-row TlvValue IsTlv one_tlv IsTlv-reads ts (flat_map (octets_with f ns) (tlvs_of field).0) (tlvs_of field).1
      (with_row (tlvs_of field).0 s.row s.spelled (omega (arith, lt, length-append (flat_map (octets_with f ns) (tlvs_of field).0) (tlvs_of field).1)))
      ∙ ap (λ (q : List TlvValue × List ℕ). (ts ++ q.0, q.1)) (pieces-none TlvValue IsTlv one_tlv IsTlv-reads (tlvs_of field).1 (nothing_at TlvValue IsTlv one_tlv IsTlv-reads field))
      ∙ ap (λ (us : List TlvValue). (us, (tlvs_of field).1)) (append-nil ts)

  -- ---- the body

  pub parts_back : (body : List ℕ) (p : Parts) → parts_of body ≡ Some p → length (body_with f ns body) < 2 ^ 16 → parts_of (body_with f ns body) ≡ Some (parts_with f ns p)
  parts_back body p e lt =
      let q : Parts = parts_with f ns p in
      let same : body_with f ns body ≡ octets_of_parts q = ap (body_of f ns body) e in
      let is : IsBody q (octets_of_parts q) = record {
        octets = refl;
        withdrawn_fits = omega (arith, lt, ap length same, length-body q.withdrawn q.attributes q.nlri);
        attributes_fit = omega (arith, lt, ap length same, length-body q.withdrawn q.attributes q.nlri);
      } in
      ap parts_of same ∙ body-parts (octets_of_parts q) q is

  longer_at : (body : List ℕ) → 4 ≤ length body → (o : Option Parts) → 4 ≤ length (body_of f ns body o)
  longer_at body le None = le
  longer_at body le (Some p) =
      let q : Parts = parts_with f ns p in
      omega (arith, length-body q.withdrawn q.attributes q.nlri)

  -- both length fields stay
  pub with_longer : (body : List ℕ) → 4 ≤ length body → 4 ≤ length (body_with f ns body)
  with_longer body le = longer_at body le (parts_of body)
