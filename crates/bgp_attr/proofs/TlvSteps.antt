-- The attributes of a field one after the other, a step at a time.
use Rattle.bgp_wire.proofs.Std.{◌≡◌, ℕ, ◌+◌, ◌-◌, ◌≤◌, List, [], ◌∷◌, length, drop, Some, None, option_map, refl, sym, ap, ap₂, ◌∙◌, arith, drop_at}
use Rattle.std.proofs.lemmas.List.{length-append, length-drop, drop-drop}
use Rattle.bgp_wire.proofs.Walks.{first_then, no_more, same_rest, shorter}
use Rattle.bgp_attr.specs.Prelude.{TlvValue, IsTlv, one_tlv, tlvs_of, placed_from, tlv_at}
use Rattle.bgp_attr.proofs.Readers.{IsTlv-reads}

module _ (field : List ℕ) (at : ℕ) where
  -- where nothing is left
  pub none_placed : None ≡ one_tlv (drop at field) → placed_from at (tlvs_of (drop at field)).0 ≡ []
  none_placed e = ap (placed_from at) (no_more TlvValue IsTlv one_tlv IsTlv-reads (drop at field) e)

  module _ (within : at ≤ length field) (t : TlvValue) (rest : List ℕ) (e : Some (t, rest) ≡ one_tlv (drop at field)) where
    pub rest_within : length rest ≤ length field
    rest_within = omega (arith, length-drop at field, shorter TlvValue IsTlv one_tlv IsTlv-reads (drop at field) t rest e)

    next_place : length field - length rest ≡ at + length t.whole
    next_place =
        let gave = IsTlv-reads.gives (drop at field) t rest (sym e) in
        omega (arith, length-drop at field, ap length gave.1, length-append gave.0 rest, ap length gave.2.whole)

    next_rest : drop (length field - length rest) field ≡ rest
    next_rest =
        let gave = IsTlv-reads.gives (drop at field) t rest (sym e) in
        ap (λ (n : ℕ). drop n field) next_place ∙ sym (drop-drop (length t.whole) at field)
        ∙ ap₂ drop (ap length gave.2.whole) gave.1 ∙ drop_at gave.0 rest (length gave.0) refl

    pub first_placed : (place : ℕ) → place ≡ at → placed_from at (tlvs_of (drop at field)).0
        ≡ record { at = place; tlv = t } ∷ placed_from (length field - length rest) (tlvs_of (drop (length field - length rest) field)).0
    first_placed place is =
        ap (placed_from at) (first_then TlvValue IsTlv one_tlv IsTlv-reads (drop at field) t rest e)
        ∙ ap₂ (λ (p : ℕ) (r : List ℕ). record { at = at; tlv = t } ∷ placed_from p (tlvs_of r).0) (sym next_place) (sym next_rest)
        ∙ ap (λ (p : ℕ). record { at = p; tlv = t } ∷ placed_from (length field - length rest) (tlvs_of (drop (length field - length rest) field)).0) (sym is)

    pub stands : (place : ℕ) → place ≡ at → tlv_at field place ≡ Some t
    stands place is = ap (tlv_at field) is ∙ sym (ap (option_map (λ (x : TlvValue × List ℕ). x.0)) e)

    pub rest_stays : (tlvs_of (drop at field)).1 ≡ (tlvs_of (drop (length field - length rest) field)).1
    rest_stays = sym (same_rest TlvValue IsTlv one_tlv IsTlv-reads (drop at field) t rest e) ∙ ap (λ (r : List ℕ). (tlvs_of r).1) (sym next_rest)
