-- What a message says without path identifiers is what it says with them.
use Rattle.bgp_wire.proofs.Std.{◌≡◌, ◌↔◌, ℕ, ◌<◌, ◌≤◌, ◌^◌, Bool, true, false, cond, List, [], ◌∷◌, ◌++◌, length, map, Option, Some, None, refl, sym, ap, ◌∙◌, arith, flat_map, subst, to_be_bytes, w16, from_be_bytes-to_be_bytes_2}
use Rattle.std.proofs.lemmas.List.{append-nil, length-append}
use Rattle.bgp_wire.specs.Prelude.{AreOctets, Row}
use Rattle.bgp_wire.proofs.OctetLemmas.{AreOctets-front, AreOctets-back}
use Rattle.bgp_wire.proofs.Pieces.{Splits-pieces, pieces-none, pieces-row}
use Rattle.bgp_wire.proofs.Walks.{nothing_at}
use Rattle.bgp_prefix.specs.Prelude.{IsPrefix, PrefixValue, one_prefix, run_of, spelling_of}
use Rattle.bgp_prefix.proofs.PrefixLemmas.{IsPrefix-reads, IsPrefix-spelling_of, IsPrefix-valid}
use Rattle.bgp_attr.specs.Prelude.{IsTlv, TlvValue, is_extended, length_octets, number_of_length, one_tlv, tlvs_of}
use Rattle.bgp_attr.proofs.Readers.{IsTlv-reads}
use Rattle.bgp_update.specs.Prelude.{IsBody, Parts, parts_of}
use Rattle.bgp_update.proofs.Bodies.{body-parts, length-body, parts-body}
use Rattle.bgp_paths.specs.declared.families.PathFamilies.{PathFamilies}
use Rattle.bgp_paths.specs.declared.families.Width.{Width}
use Rattle.bgp_paths.specs.declared.families.Width.TheVariants.{Ip4, Ip6}
use Rattle.bgp_paths.specs.Prelude.{IsPathPrefix, PathPrefixValue, head_length, identified, left_over, octets_of_parts, one_path_prefix, path_run_of, plain_at, plain_attribute, plain_behind, plain_body, plain_field, plain_of, plain_parts, plain_routes, plain_tlv, value_at, width_of}
use Rattle.bgp_paths.proofs.Routes.{IsPathPrefix-reads}
use Rattle.bgp_paths.proofs.Lengths.{behind_shorter, field_shorter, run_shorter, two_or_one}

-- ---- runs

abbrev prefix_in : PathPrefixValue → PrefixValue
prefix_in r = r.prefix

module _ (width : ℕ) where
  -- the octets of prefixes that were read with path identifiers are a row of them
  plain_row : (rs : List PathPrefixValue) (row : List ℕ) → AreOctets row → Row (IsPathPrefix width) rs row → Row (IsPrefix width) (map prefix_in rs) (flat_map (λ r. spelling_of r.prefix) rs)
  plain_row [] row octets p = refl
  plain_row (r ∷ rs) row octets p =
      let both : AreOctets (p.0 ++ p.1) = subst AreOctets p.2 octets in
      let s = p.3 in
      let front : AreOctets (s.a ∷ s.b ∷ s.c ∷ s.d ∷ s.read) = subst AreOctets s.whole (AreOctets-front p.0 p.1 both) in
      let read : AreOctets s.read = AreOctets-back (s.a ∷ s.b ∷ s.c ∷ s.d ∷ []) s.read front in
      (spelling_of r.prefix, flat_map (λ x. spelling_of x.prefix) rs, refl, IsPrefix-spelling_of width r.prefix (IsPrefix-valid width r.prefix s.read read s.spelled), plain_row rs p.1 (AreOctets-back p.0 p.1 both) p.4)

  module _ (nothing : one_prefix width (255 ∷ []) ≡ None) (empty : one_prefix width [] ≡ None) where
    -- what stands for octets that are left is no prefix
    over_none : (rest : List ℕ) → run_of width (left_over rest) ≡ ([], left_over rest)
    over_none [] = pieces-none PrefixValue (IsPrefix width) (one_prefix width) (IsPrefix-reads width) [] empty
    over_none (x ∷ rest) = pieces-none PrefixValue (IsPrefix width) (one_prefix width) (IsPrefix-reads width) (255 ∷ []) nothing

    runs_in : (b : List ℕ) → AreOctets b → run_of width (plain_routes width b) ≡ (map prefix_in (path_run_of width b).0, left_over (path_run_of width b).1)
    runs_in b octets =
        let s = Splits-pieces PathPrefixValue (IsPathPrefix width) (one_path_prefix width) (IsPathPrefix-reads width) b in
        let row : AreOctets s.row = AreOctets-front s.row (path_run_of width b).1 (subst AreOctets s.whole octets) in
        pieces-row PrefixValue (IsPrefix width) (one_prefix width) (IsPrefix-reads width) (map prefix_in (path_run_of width b).0) (flat_map (λ r. spelling_of r.prefix) (path_run_of width b).0) (left_over (path_run_of width b).1)
        (plain_row (path_run_of width b).0 s.row row s.spelled)
        ∙ ap (λ (q : List PrefixValue × List ℕ). (map prefix_in (path_run_of width b).0 ++ q.0, q.1)) (over_none (path_run_of width b).1)
        ∙ ap (λ (ps : List PrefixValue). (ps, left_over (path_run_of width b).1)) (append-nil (map prefix_in (path_run_of width b).0))

nothing4 : one_prefix 4 (255 ∷ []) ≡ None
unfolding one_prefix
nothing4 = refl

nothing16 : one_prefix 16 (255 ∷ []) ≡ None
unfolding one_prefix
nothing16 = refl

empty_at : (width : ℕ) → one_prefix width [] ≡ None
unfolding one_prefix
empty_at width = refl

pub runs_same : (width : Width) (b : List ℕ) → AreOctets b → run_of (width_of width) (plain_routes (width_of width) b) ≡ (map prefix_in (path_run_of (width_of width) b).0, left_over (path_run_of (width_of width) b).1)
runs_same Ip4 b octets = runs_in 4 nothing4 (empty_at 4) b octets
runs_same Ip6 b octets = runs_in 16 nothing16 (empty_at 16) b octets

over_empty : (rest : List ℕ) → left_over rest ≡ [] → rest ≡ []
over_empty [] e = refl
over_empty (x ∷ rest) e = absurd cc

pub runs_whole : (width : Width) (b : List ℕ) → AreOctets b → ((run_of (width_of width) (plain_routes (width_of width) b)).1 ≡ []) ↔ ((path_run_of (width_of width) b).1 ≡ [])
runs_whole width b octets =
    let same = ap (λ (q : List PrefixValue × List ℕ). q.1) (runs_same width b octets) in
    (λ e. over_empty (path_run_of (width_of width) b).1 (sym same ∙ e), λ e. same ∙ ap left_over e)

-- ---- attributes

pub counted_at : (t : Bool) (n : ℕ) → n < 2 ^ 16 → n ≡ number_of_length (cond t (to_be_bytes w16 n) (n ∷ []))
counted_at true n lt = sym (from_be_bytes-to_be_bytes_2 n lt)
counted_at false n lt = refl

attribute_at : (f : PathFamilies) (t : TlvValue) (b : List ℕ) → IsTlv t b → length b < 2 ^ 16 → (head : Option ℕ)
    → IsTlv (record { flags = t.flags; kind = t.kind; whole = plain_at f t head; value = value_at f t head }) (plain_at f t head)
attribute_at f t b s lt None = record { size = s.size; octets = s.whole ∙ s.octets; wide = s.wide; counted = s.counted; whole = refl }
attribute_at f t b s lt (Some n) =
    let value : List ℕ = plain_behind (identified f t.value) n t.value in
    record {
      size = length_octets t.flags (length value);
      octets = refl;
      wide = two_or_one (is_extended t.flags) (length value);
      counted = counted_at (is_extended t.flags) (length value) (omega (arith, lt, behind_shorter (identified f t.value) n t.value, ap length s.octets, length-append s.size t.value));
      whole = refl;
    }

module _ (f : PathFamilies) where
  attribute_row : (ts : List TlvValue) (row : List ℕ) → length row < 2 ^ 16 → Row IsTlv ts row → Row IsTlv (map (plain_attribute f) ts) (flat_map (plain_tlv f) ts)
  attribute_row [] row lt p = refl
  attribute_row (t ∷ ts) row lt p = (
    plain_tlv f t,
    flat_map (plain_tlv f) ts,
    refl,
    attribute_at f t p.0 p.3 (omega (arith, lt, ap length p.2, length-append p.0 p.1)) (head_length t),
    attribute_row ts p.1 (omega (arith, lt, ap length p.2, length-append p.0 p.1)) p.4,
  )

  pub attributes_same : (field : List ℕ) → length field < 2 ^ 16 → tlvs_of (plain_field f field) ≡ (map (plain_attribute f) (tlvs_of field).0, (tlvs_of field).1)
  attributes_same field lt =
      let s = Splits-pieces TlvValue IsTlv one_tlv IsTlv-reads field in
      let ts : List TlvValue = map (plain_attribute f) (tlvs_of field).0 in
      pieces-row TlvValue IsTlv one_tlv IsTlv-reads ts (flat_map (plain_tlv f) (tlvs_of field).0) (tlvs_of field).1
      (attribute_row (tlvs_of field).0 s.row (omega (arith, lt, ap length s.whole, length-append s.row (tlvs_of field).1)) s.spelled)
      ∙ ap (λ (q : List TlvValue × List ℕ). (ts ++ q.0, q.1)) (pieces-none TlvValue IsTlv one_tlv IsTlv-reads (tlvs_of field).1 (nothing_at TlvValue IsTlv one_tlv IsTlv-reads field))
      ∙ ap (λ (us : List TlvValue). (us, (tlvs_of field).1)) (append-nil ts)

  -- ---- the body

  pub parts_same : (body : List ℕ) (p : Parts) → AreOctets body → parts_of body ≡ Some p → parts_of (plain_body f body) ≡ Some (plain_parts f p)
  parts_same body p octets e =
      let s = parts-body body p octets e in
      let is : IsBody (plain_parts f p) (octets_of_parts (plain_parts f p)) = record {
        octets = refl;
        withdrawn_fits = omega (arith, s.withdrawn_fits, run_shorter f.ip4 p.withdrawn);
        attributes_fit = omega (arith, s.attributes_fit, field_shorter f p.attributes);
      } in
      ap (λ (o : Option Parts). parts_of (plain_of f body o)) e ∙ body-parts (octets_of_parts (plain_parts f p)) (plain_parts f p) is

  shorter_at : (body : List ℕ) → AreOctets body → (o : Option Parts) → parts_of body ≡ o → length (plain_of f body o) ≤ length body
  shorter_at body octets None e = omega arith
  shorter_at body octets (Some p) e =
      let s = parts-body body p octets e in
      let q : Parts = plain_parts f p in
      omega (arith, ap length s.octets, length-body p.withdrawn p.attributes p.nlri, length-body q.withdrawn q.attributes q.nlri, run_shorter f.ip4 p.withdrawn, field_shorter f p.attributes, run_shorter f.ip4 p.nlri)

  pub body_shorter : (body : List ℕ) → AreOctets body → length (plain_body f body) ≤ length body
  body_shorter body octets = shorter_at body octets (parts_of body) refl

  longer_at : (body : List ℕ) → 4 ≤ length body → (o : Option Parts) → 4 ≤ length (plain_of f body o)
  longer_at body le None = le
  longer_at body le (Some p) =
      let q : Parts = plain_parts f p in
      omega (arith, length-body q.withdrawn q.attributes q.nlri)

  -- both length fields stay
  pub body_longer : (body : List ℕ) → 4 ≤ length body → 4 ≤ length (plain_body f body)
  body_longer body le = longer_at body le (parts_of body)
