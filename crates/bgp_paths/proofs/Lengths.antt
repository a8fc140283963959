-- What is left without path identifiers is no longer than what had them.
use Rattle.bgp_wire.proofs.Std.{◌≡◌, ℕ, suc, ◌+◌, ◌<◌, ◌≤◌, Bool, true, false, leb, List, [], ◌∷◌, ◌++◌, length, take, drop, Option, Some, None, refl, sym, ap, ◌∙◌, arith, flat_map, leb-true, cond, to_be_bytes, w16, option_map, subst, true≢false, append_assoc, flat_map-cons}
use Rattle.std.proofs.lemmas.List.{length-append, length-take, length-drop}
use Rattle.bgp_wire.specs.Prelude.{AreOctets, Row}
use Rattle.bgp_wire.proofs.Pieces.{Splits-pieces}
use Rattle.bgp_prefix.specs.Prelude.{octets_for, PrefixValue, spelling_of}
use Rattle.bgp_attr.specs.Prelude.{IsTlv, PlacedTlv, TlvValue, is_extended, length_octets, length_width, one_tlv, placed_from, tlv_at, tlv_octets, tlvs_of}
use Rattle.bgp_attr.proofs.Readers.{IsTlv-reads}
use Rattle.bgp_paths.specs.declared.families.PathFamilies.{PathFamilies}
use Rattle.bgp_paths.specs.declared.families.Width.{Width}
use Rattle.bgp_paths.specs.Prelude.{IsPathPrefix, PathPrefixValue, head_length, identified, left_over, one_path_prefix, path_run_of, plain_at, plain_behind, plain_field, plain_routes, plain_run, plain_tlv, width_of}
use Rattle.bgp_paths.proofs.Routes.{IsPathPrefix-reads}

-- ---- a run

spelled_short : (p : PrefixValue) → length (spelling_of p) ≤ suc (octets_for p.len)
unfolding spelling_of
spelled_short p = omega (arith, length-take (octets_for p.len) p.addr)

module _ (width : ℕ) where
  route_shorter : (r : PathPrefixValue) (b : List ℕ) → IsPathPrefix width r b → length (spelling_of r.prefix) ≤ length b
  route_shorter r b s =
      omega (arith, spelled_short r.prefix, ap length s.whole, ap length s.spelled.octets, s.spelled.least)

  row_shorter : (rs : List PathPrefixValue) (row : List ℕ) → Row (IsPathPrefix width) rs row → length (flat_map (λ r. spelling_of r.prefix) rs) ≤ length row
  row_shorter [] row p = omega arith
  row_shorter (r ∷ rs) row p =
      omega (arith, route_shorter r p.0 p.3, row_shorter rs p.1 p.4, ap length p.2, length-append p.0 p.1, length-append (spelling_of r.prefix) (flat_map (λ r. spelling_of r.prefix) rs))

  over_shorter : (rest : List ℕ) → length (left_over rest) ≤ length rest
  over_shorter [] = omega arith
  over_shorter (x ∷ rest) = omega arith

  pub routes_shorter : (b : List ℕ) → length (plain_routes width b) ≤ length b
  routes_shorter b =
      let s = Splits-pieces PathPrefixValue (IsPathPrefix width) (one_path_prefix width) (IsPathPrefix-reads width) b in
      omega (
        arith,
        row_shorter (path_run_of width b).0 s.row s.spelled,
        over_shorter (path_run_of width b).1,
        ap length s.whole,
        length-append s.row (path_run_of width b).1,
        length-append (flat_map (λ r. spelling_of r.prefix) (path_run_of width b).0) (left_over (path_run_of width b).1),
      )

pub run_shorter : (paths : Bool) (b : List ℕ) → length (plain_run paths b) ≤ length b
run_shorter true b = routes_shorter 4 b
run_shorter false b = omega arith

-- ---- an attribute

behind_at : (width : ℕ) (n : ℕ) (value : List ℕ) (t : Bool) → leb n (length value) ≡ t → length (cond t (take n value ++ plain_routes width (drop n value)) value) ≤ length value
behind_at width n value true le =
    omega (arith, leb-true n (length value) le, length-append (take n value) (plain_routes width (drop n value)), routes_shorter width (drop n value), length-take n value, length-drop n value)
behind_at width n value false le = omega arith

pub behind_shorter : (family : Option Width) (n : ℕ) (value : List ℕ) → length (plain_behind family n value) ≤ length value
behind_shorter None n value = omega arith
behind_shorter (Some width) n value = behind_at (width_of width) n value (leb n (length value)) refl

-- the length field of an attribute has one octet or two
pub two_or_one : (t : Bool) (n : ℕ) → length (cond t (to_be_bytes w16 n) (n ∷ [])) ≡ cond t 2 1
two_or_one true n = refl
two_or_one false n = refl

pub tlv_length : (flags kind : ℕ) (value : List ℕ) → length (tlv_octets flags kind value) ≡ 2 + length_width flags + length value
tlv_length flags kind value = omega (arith, two_or_one (is_extended flags) (length value), length-append (length_octets flags (length value)) value)

whole_length : (t : TlvValue) (b : List ℕ) → IsTlv t b → length b ≡ 2 + length_width t.flags + length t.value
whole_length t b s = omega (arith, ap length s.octets, length-append s.size t.value, s.wide)

at_shorter : (f : PathFamilies) (t : TlvValue) (b : List ℕ) → IsTlv t b → (head : Option ℕ) → length (plain_at f t head) ≤ length b
at_shorter f t b s None = omega (arith, ap length s.whole)
at_shorter f t b s (Some n) =
    omega (arith, whole_length t b s, tlv_length t.flags t.kind (plain_behind (identified f t.value) n t.value), behind_shorter (identified f t.value) n t.value)

pub tlv_shorter : (f : PathFamilies) (t : TlvValue) (b : List ℕ) → IsTlv t b → length (plain_tlv f t) ≤ length b
tlv_shorter f t b s = at_shorter f t b s (head_length t)

-- ---- a field

module _ (f : PathFamilies) where
  tlvs_shorter : (ts : List TlvValue) (row : List ℕ) → Row IsTlv ts row → length (flat_map (plain_tlv f) ts) ≤ length row
  tlvs_shorter [] row p = omega arith
  tlvs_shorter (t ∷ ts) row p =
      omega (arith, tlv_shorter f t p.0 p.3, tlvs_shorter ts p.1 p.4, ap length p.2, length-append p.0 p.1, length-append (plain_tlv f t) (flat_map (plain_tlv f) ts))

  pub field_shorter : (field : List ℕ) → length (plain_field f field) ≤ length field
  field_shorter field =
      let s = Splits-pieces TlvValue IsTlv one_tlv IsTlv-reads field in
      omega (arith, tlvs_shorter (tlvs_of field).0 s.row s.spelled, ap length s.whole, length-append s.row (tlvs_of field).1, length-append (flat_map (plain_tlv f) (tlvs_of field).0) (tlvs_of field).1)

-- ---- what the code reads

-- a length in one octet is below 256
short_at : (flags kind : ℕ) (value : List ℕ) (t : Bool) → t ≡ false → AreOctets (flags ∷ kind ∷ (cond t (to_be_bytes w16 (length value)) (length value ∷ []) ++ value)) → length value < 256
short_at flags kind value false e octets = octets 2
short_at flags kind value true e octets = absurd (true≢false e)

pub value_short : (flags kind : ℕ) (value whole : List ℕ) → whole ≡ tlv_octets flags kind value → AreOctets whole → is_extended flags ≡ false → length value < 256
value_short flags kind value whole spelled octets e = short_at flags kind value (is_extended flags) e (subst AreOctets spelled octets)

within_at : (b : List ℕ) (t : TlvValue) (o : Option (TlvValue × List ℕ)) → one_tlv b ≡ o → option_map (λ (x : TlvValue × List ℕ). x.0) o ≡ Some t
    → (length t.value ≤ length b) × (length t.whole ≤ length b)
within_at b t None e is = absurd cc
within_at b t (Some found) e is =
    let gave = IsTlv-reads.gives b found.0 found.1 e in
    let same : found.0 ≡ t = cc in (
      omega (arith, whole_length found.0 gave.0 gave.2, ap length gave.1, length-append gave.0 found.1, ap (λ (x : TlvValue). length x.value) same),
      omega (arith, ap length gave.2.whole, ap length gave.1, length-append gave.0 found.1, ap (λ (x : TlvValue). length x.whole) same),
    )

-- the value of an attribute of a field
pub value_within : (field : List ℕ) (at : ℕ) (t : TlvValue) → tlv_at field at ≡ Some t → length t.value ≤ length field
value_within field at t is = omega (arith, (within_at (drop at field) t (one_tlv (drop at field)) refl is).0, length-drop at field)

-- and its octets
pub whole_within : (field : List ℕ) (at : ℕ) (t : TlvValue) → tlv_at field at ≡ Some t → length t.whole ≤ length field
whole_within field at t is = omega (arith, (within_at (drop at field) t (one_tlv (drop at field)) refl is).1, length-drop at field)

-- with their offsets or without
pub placed_octets : (g : TlvValue → List ℕ) (at : ℕ) (ts : List TlvValue) → flat_map (λ p. g p.tlv) (placed_from at ts) ≡ flat_map g ts
placed_octets g at [] = refl
placed_octets g at (t ∷ ts) =
    flat_map-cons (λ p. g p.tlv) (record { at = at; tlv = t }) (placed_from (at + length t.whole) ts)
    ∙ ap (λ (b : List ℕ). g t ++ b) (placed_octets g (at + length t.whole) ts)
    ∙ sym (flat_map-cons g t ts)

-- the octets of the first attribute that is left, and those of the others
pub left_first : (g : TlvValue → List ℕ) (p : PlacedTlv) (ps : List PlacedTlv) (rest : List ℕ)
    → flat_map (λ q. g q.tlv) (p ∷ ps) ++ rest ≡ g p.tlv ++ (flat_map (λ q. g q.tlv) ps ++ rest)
left_first g p ps rest =
    ap (λ (b : List ℕ). b ++ rest) (flat_map-cons (λ q. g q.tlv) p ps) ∙ append_assoc (g p.tlv) (flat_map (λ q. g q.tlv) ps) rest
