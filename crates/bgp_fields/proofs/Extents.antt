-- The octets of an attribute.
use Rattle.bgp_fields.proofs.Prelude.{◌≡◌, ℕ, List, [], ◌∷◌, ◌≤◌, length, Option, Some, None, refl, sym, ap, ◌∙◌, arith, length-append, pieces-some}
use Rattle.bgp_fields.proofs.Prelude.{pieces-none, TlvValue, IsTlv, one_tlv, PlacedTlv, tlvs_of, placed_from, IsTlv-reads, attribute_extent}

first-same : (p q : PlacedTlv) (ps qs : List PlacedTlv) → p ∷ ps ≡ q ∷ qs → p ≡ q
first-same p q ps qs e = cc

first-whole : (p q : PlacedTlv) (ps qs : List PlacedTlv) → p ∷ ps ≡ q ∷ qs → length p.tlv.whole ≡ length q.tlv.whole
first-whole p q ps qs e = ap (λ (x : PlacedTlv). length x.tlv.whole) (first-same p q ps qs e)

module _ (b : List ℕ) where
  some-by : (p : PlacedTlv) (ps : List PlacedTlv) (o : Option (TlvValue × List ℕ)) → one_tlv b ≡ o → placed_from 0 (tlvs_of b).0 ≡ p ∷ ps
      → length p.tlv.whole ≡ attribute_extent b o
  some-by p ps None is e =
      let none : placed_from 0 (tlvs_of b).0 ≡ [] = ap (λ (q : List TlvValue × List ℕ). placed_from 0 q.0) (pieces-none TlvValue IsTlv one_tlv IsTlv-reads b is) in
      absurd (let no : [] ≡ p ∷ ps = sym none ∙ e in cc)
  some-by p ps (Some (t, rest)) is e =
      first-whole p (record { at = 0; tlv = t }) ps _
      (sym e ∙ ap (λ (q : List TlvValue × List ℕ). placed_from 0 q.0) (pieces-some TlvValue IsTlv one_tlv IsTlv-reads b t rest is))

  pub extent-some : (p : PlacedTlv) (ps : List PlacedTlv) → placed_from 0 (tlvs_of b).0 ≡ p ∷ ps → length p.tlv.whole ≡ attribute_extent b (one_tlv b)
  extent-some p ps e = some-by p ps (one_tlv b) refl e

  none-by : (o : Option (TlvValue × List ℕ)) → one_tlv b ≡ o → placed_from 0 (tlvs_of b).0 ≡ [] → length b ≡ attribute_extent b o
  none-by None is e = refl
  none-by (Some (t, rest)) is e =
      absurd (let some : [] ≡ _ ∷ _ = sym e ∙ ap (λ (q : List TlvValue × List ℕ). placed_from 0 q.0) (pieces-some TlvValue IsTlv one_tlv IsTlv-reads b t rest is) in cc)

  pub extent-none : placed_from 0 (tlvs_of b).0 ≡ [] → length b ≡ attribute_extent b (one_tlv b)
  extent-none e = none-by (one_tlv b) refl e

  short-by : (o : Option (TlvValue × List ℕ)) → one_tlv b ≡ o → attribute_extent b o ≤ length b
  short-by None is = omega arith
  short-by (Some (t, rest)) is =
      let gave = IsTlv-reads.gives b t rest is in
      omega (arith, ap length gave.1, length-append gave.0 rest, ap length (gave.2).whole)

  pub extent-short : attribute_extent b (one_tlv b) ≤ length b
  extent-short = short-by (one_tlv b) refl
