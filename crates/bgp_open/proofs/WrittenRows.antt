-- The row of capabilities as it is written, one after the other.
use Rattle.std.proofs.Common.{◌≡◌, ℕ, ◌+◌, ◌≤◌, ◌<◌, Bool, true, false, ◌||◌, ltb, List, [], ◌∷◌, ◌++◌, length, get_or, take, refl, sym, ap, subst, ◌∙◌, arith}
use Rattle.std.specs.List.{list_any}
use Rattle.std.proofs.lemmas.Bool.{lt-ltb, le-ltb}
use Rattle.std.proofs.lemmas.List.{length-append, take_more, take_all, flat_map_more}
use Rattle.std.proofs.lemmas.List.Folds.{length-flat_map-take, list_any_at, list_any_more}
use Rattle.std.proofs.Math.Bool.{or-true}
use Rattle.bgp_wire.specs.Prelude.{Row}
use Rattle.bgp_wire.proofs.Rows.{Row-push}
use Rattle.bgp_open.specs.declared.capability.Capability.{Capability}
use Rattle.bgp_open.specs.Prelude.{IsCapability, capability_octets, row_octets, is_misnamed, is_bad_row}

-- b is the written row of the capabilities, and fits in a parameter
pub record IsRowOf (caps : List Capability) (b : List ℕ) : Type 0 where
  pub octets : b ≡ row_octets caps
  pub spelled : Row IsCapability caps b
  pub named : list_any is_misnamed caps ≡ false
  pub fits : length b ≤ 253

pub row-starts : (b : List ℕ) → b ≡ [] → IsRowOf [] b
row-starts b e = record { octets = e; spelled = e; named = refl; fits = omega (arith, ap length e) }

-- one more capability
pub row-grows : (caps : List Capability) (i : ℕ) (x : Capability) (b now : List ℕ) → i < length caps → x ≡ get_or caps i x → IsRowOf (take i caps) b
    → false ≡ is_misnamed x → now ≡ b ++ capability_octets x → IsCapability x (capability_octets x) → length b + length (capability_octets x) ≤ 253
    → IsRowOf (take (i + 1) caps) now
row-grows caps i x b now lt is so_far name more spells room =
    let one_more : take (i + 1) caps ≡ take i caps ++ x ∷ [] = take_more caps i x lt ∙ ap (λ (y : Capability). take i caps ++ y ∷ []) (sym is) in
    record {
      octets = more ∙ ap (λ (r : List ℕ). r ++ capability_octets x) so_far.octets ∙ flat_map_more capability_octets [] (take i caps) x ∙ ap row_octets (sym one_more);
      spelled = subst (λ (cs : List Capability). Row IsCapability cs now) (sym one_more) (subst (λ (r : List ℕ). Row IsCapability (take i caps ++ x ∷ []) r) (sym more) (Row-push IsCapability (take i caps) x b (capability_octets x) so_far.spelled spells));
      named = list_any_more is_misnamed caps i x lt ∙ ap (λ (t : Bool). t || is_misnamed (get_or caps i x)) so_far.named ∙ ap is_misnamed (sym is) ∙ sym name;
      fits = omega (arith, ap length more, length-append b (capability_octets x));
    }

pub row-whole : (caps : List Capability) (i : ℕ) (b : List ℕ) → length caps ≤ i → IsRowOf (take i caps) b → IsRowOf caps b
row-whole caps i b le so_far = subst (λ (cs : List Capability). IsRowOf cs b) (take_all i caps le) so_far

-- ---- which rows don't fit in a parameter

pub row-misnamed : (caps : List Capability) (i : ℕ) (x : Capability) → i < length caps → x ≡ get_or caps i x → true ≡ is_misnamed x → is_bad_row caps ≡ true
row-misnamed caps i x lt is name =
    ap (λ (t : Bool). ltb 253 (length (row_octets caps)) || t) (list_any_at is_misnamed caps i x lt (ap is_misnamed (sym is) ∙ sym name)) ∙ or-true (ltb 253 (length (row_octets caps)))

pub row-long : (caps : List Capability) (i : ℕ) (x : Capability) (b : List ℕ) → i < length caps → x ≡ get_or caps i x → IsRowOf (take i caps) b
    → (length b + length (capability_octets x) ≤ 253 → ⊥) → is_bad_row caps ≡ true
row-long caps i x b lt is so_far room =
    let short : length (row_octets (take i caps)) + length (capability_octets (get_or caps i x)) ≤ length (row_octets caps) = length-flat_map-take capability_octets caps i x lt in
    let same : length (capability_octets (get_or caps i x)) ≡ length (capability_octets x) = ap (λ (y : Capability). length (capability_octets y)) (sym is) in
    let same_row : length b ≡ length (row_octets (take i caps)) = ap length so_far.octets in
    let long : ltb 253 (length (row_octets caps)) ≡ true = lt-ltb _ _ (omega (arith, room)) in
    ap (λ (t : Bool). t || list_any is_misnamed caps) long

pub row-good : (caps : List Capability) (b : List ℕ) → IsRowOf caps b → is_bad_row caps ≡ false
row-good caps b row =
    let fits : ltb 253 (length (row_octets caps)) ≡ false = le-ltb _ _ (omega (arith, ap length row.octets, row.fits)) in
    ap (λ (t : Bool). t || list_any is_misnamed caps) fits ∙ row.named
