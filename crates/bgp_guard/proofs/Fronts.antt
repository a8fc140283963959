-- Octets that are fed at once do what they do one by one.
use Rattle.bgp_guard.proofs.Prelude.{◌≡◌, ℕ, Bool, true, List, [], ◌∷◌, ◌++◌, take, refl, sym, ap, subst, ◌∙◌, append-nil, WaitsIn, IsHeldIn, content_of-waits}
use Rattle.bgp_guard.proofs.Prelude.{all_held, Rules, Sight, listens_in, CameFrom, CameIn, Counts, IsHeardBy, heard, heard_as, holding, octet_by, by_octet}
use Rattle.bgp_guard.proofs.Prelude.{by_octets, IsSettled}
use Rattle.bgp_guard.specs.declared.came.Came.{Came}
use Rattle.bgp_guard.specs.Guard.{types}
use Rattle.bgp_guard.proofs.Types.{types-are}

module _ (rules : Rules) (silent : Bool) (s : Sight) (up : listens_in s ≡ true) where
  takes_one : (held : List ℕ) (octet : ℕ) → by_octet rules silent (holding s held) octet ≡ heard rules silent (holding s (held ++ octet ∷ []))
  takes_one held octet = ap (λ (b : Bool). octet_by b rules silent (holding s held) octet) up

  waits_on : (held : List ℕ) → WaitsIn types held → heard rules silent (holding s held) ≡ holding s held
  waits_on held waits = ap (heard_as rules silent (holding s held)) (content_of-waits types types-are held waits)

  -- for octets that can all be held
  pub fed_at_once : (front : List ℕ) → WaitsIn types s.this.held → IsHeldIn types (s.this.held ++ front)
      → by_octets rules silent s front ≡ heard rules silent (holding s (s.this.held ++ front))
  fed_at_once [] waits is = sym (waits_on s.this.held waits) ∙ ap (λ (h : List ℕ). heard rules silent (holding s h)) (sym (append-nil s.this.held))
  fed_at_once (octet ∷ front) waits is =
      let whole = s.this.held ++ octet ∷ front in
      all_held types types-are (λ held later. by_octets rules silent (holding s held) later ≡ heard rules silent (holding s whole)) whole
      (λ held octet joined. takes_one held octet ∙ ap (λ (h : List ℕ). heard rules silent (holding s h)) joined)
      (λ held octet next later more_waits goes.
      ap (λ (x : Sight). by_octets rules silent x (next ∷ later)) (takes_one held octet ∙ waits_on (held ++ octet ∷ []) more_waits) ∙ goes)
      is s.this.held octet front refl

-- what is fed is judged, so the octets are received
module _ (rules : Rules) (silent : Bool) (s : Sight) (piece : List ℕ) (n : ℕ) (came : Came) (new : Sight) where
  pub fed_is_heard : (fed : List ℕ) → listens_in s ≡ true → WaitsIn types s.this.held → Counts true s.this.held piece n → fed ≡ s.this.held ++ take n piece → IsHeldIn types fed
      → IsSettled rules silent (holding s fed) came new → IsHeardBy rules silent s piece n came new
  fed_is_heard fed up waits counts is can_hold settled = record {
    count = subst (λ (b : Bool). Counts b s.this.held piece n) (sym up) counts;
    after =
        settled.after ∙ ap (λ (h : List ℕ). heard rules silent (holding s h)) is
        ∙ sym (fed_at_once rules silent s up (take n piece) waits (subst (IsHeldIn types) is can_hold));
    told =
        subst (λ (b : Bool). CameFrom b rules silent s (take n piece) came) (sym up)
        (subst (λ (h : List ℕ). CameIn rules silent (holding s h) came) is settled.told);
  }
