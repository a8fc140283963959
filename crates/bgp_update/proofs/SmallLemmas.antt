-- The attributes of a field are within it.
use Rattle.bgp_wire.proofs.Std.{◌≡◌, ℕ, ◌+◌, ◌≤◌, Bool, true, false, ◌&&◌, leb, List, [], ◌∷◌, length, refl, ap, ◌∙◌, arith, list_all, le-leb, leb-true}
use Rattle.std.proofs.lemmas.List.{length-append}
use Rattle.bgp_wire.specs.Prelude.{Row}
use Rattle.bgp_wire.proofs.Pieces.{Splits-pieces}
use Rattle.bgp_attr.specs.Prelude.{TlvValue, IsTlv, PlacedTlv, one_tlv, tlvs_of, placed_from}
use Rattle.bgp_attr.proofs.Readers.{IsTlv-reads}
use Rattle.bgp_update.specs.Prelude.{is_small}

row_small : (ts : List TlvValue) (at : ℕ) (row : List ℕ) → Row IsTlv ts row → at + length row ≤ 4075 → list_all is_small (placed_from at ts) ≡ true
row_small [] at row p le = refl
row_small (t ∷ ts) at row p le =
    let len : length t.whole ≡ length p.0 = ap length p.3.whole in
    let total : length row ≡ length p.0 + length p.1 = ap length p.2 ∙ length-append p.0 p.1 in
    let first : leb (at + length t.whole) 4075 ≡ true = le-leb _ _ (omega arith) in
    rw first (row_small ts (at + length t.whole) p.1 p.4 (omega arith))

pub field_small : (field : List ℕ) → length field ≤ 4075 → list_all is_small (placed_from 0 (tlvs_of field).0) ≡ true
field_small field le =
    let s = Splits-pieces TlvValue IsTlv one_tlv IsTlv-reads field in
    row_small (tlvs_of field).0 0 s.row s.spelled (omega (arith, ap length s.whole, length-append s.row (tlvs_of field).1))

-- the first attribute, and the others
pub both_small : (p : PlacedTlv) (ps : List PlacedTlv) → list_all is_small (p ∷ ps) ≡ true → (p.at + length p.tlv.whole ≤ 4075) × (list_all is_small ps ≡ true)
both_small p ps e = at (leb (p.at + length p.tlv.whole) 4075) refl e
  where
    at : (t : Bool) → leb (p.at + length p.tlv.whole) 4075 ≡ t → (t && list_all is_small ps) ≡ true → (p.at + length p.tlv.whole ≤ 4075) × (list_all is_small ps ≡ true)
    at true le rest = (leb-true _ _ le, rest)
    at false le rest = absurd cc
