-- What both sides agree on, and why one refuses the other.
use Rattle.bgp_session.proofs.Prelude.{◌≡◌, ◌≢◌, ◌⊎◌, ℕ, Bool, true, false, not, ◌&&◌, cond, eqb, List, [], ◌∷◌, Ok, Err, refl, sym, ap, ◌∙◌, inl, inr}
use Rattle.bgp_session.proofs.Prelude.{false≢true, and_parts, eqb-true, eq-eqb, true≢false, PeerFault, Context, Settings, own_of, peer_as_of, same_id}
use Rattle.bgp_session.proofs.Prelude.{context_of, agreement, peer_notification, accepted, has_as4, peer_as-own, Move, Side, CanBeSet, HasReason, both_wide}
use Rattle.std.proofs.Math.Bool.{and_comm}

-- the test of a peer's AS number, and that of its identifier
abbrev is_peer : Settings → Settings → Bool
is_peer s t = eqb (peer_as_of (own_of t)) s.peer_as

abbrev has_own_id : Settings → Settings → Bool
has_own_id s t = eqb s.local_as s.peer_as && same_id t.id s.id

pub agreed_width : (s t : Settings) (c : Context) → agreement s (own_of t) ≡ Ok c → c.as4 ≡ both_wide s t
agreed_width s t c is =
    let same = accepted (is_peer s t) (has_own_id s t) (context_of s (own_of t)) c is in
    ap (λ (x : Context). x.as4) (sym same.1) ∙ ap (λ (b : Bool). s.as4 && b) (has_as4 t.ip4 t.ip6 t.as4 t.local_as)

pub wide_swaps : (s t : Settings) → both_wide s t ≡ both_wide t s
wide_swaps s t = and_comm s.as4 t.as4

-- ---- why a peer is refused

abbrev IsRefusal : Bool → Bool → PeerFault → Type 0
IsRefusal other same fault = ((fault ≡ PeerFault.PeerAs) × (other ≡ false)) ⊎ ((fault ≡ PeerFault.Identifier) × (same ≡ true))

refused : (other same : Bool) (x : Context) (fault : PeerFault) → cond (not other) (Err PeerFault.PeerAs) (cond same (Err PeerFault.Identifier) (Ok x)) ≡ Err fault → IsRefusal other same fault
refused false same x fault e = inl (let is : Err PeerFault.PeerAs ≡ Err fault = e in cc, refl)
refused true true x fault e = inr (let is : Err PeerFault.Identifier ≡ Err fault = e in cc, refl)
refused true false x fault e = absurd (let no : Ok x ≡ Err fault = e in cc)

same_id_is : (x y : List ℕ) → same_id x y ≡ true → x ≡ y
same_id_is (a ∷ b ∷ c ∷ d ∷ []) (e ∷ f ∷ g ∷ h ∷ []) is =
    let one = and_parts (eqb a e) (eqb b f && (eqb c g && eqb d h)) is in
    let two = and_parts (eqb b f) (eqb c g && eqb d h) one.1 in
    let three = and_parts (eqb c g) (eqb d h) two.1 in
    let p : a ≡ e = eqb-true a e one.0 in
    let q : b ≡ f = eqb-true b f two.0 in
    let r : c ≡ g = eqb-true c g three.0 in
    let s : d ≡ h = eqb-true d h three.1 in
    cc
same_id_is _ _ is = absurd (false≢true is)

module _ (side : Side) (moves : List Move) (s t : Settings) (can : CanBeSet t) where
  wrong_as : is_peer s t ≡ false → t.local_as ≢ s.peer_as
  wrong_as other is = true≢false (sym (eq-eqb (peer_as_of (own_of t)) s.peer_as (peer_as-own t can.allowed ∙ is)) ∙ other)

  reason_by : (fault : PeerFault) → IsRefusal (is_peer s t) (has_own_id s t) fault → HasReason s t side moves (peer_notification fault).code (peer_notification fault).subcode
  reason_by PeerFault.PeerAs (inl r) = inl (record { code_is = refl; subcode_is = refl; other_as = wrong_as r.1 })
  reason_by PeerFault.PeerAs (inr r) = absurd (let no : PeerFault.PeerAs ≡ PeerFault.Identifier = r.0 in cc)
  reason_by PeerFault.Identifier (inl r) = absurd (let no : PeerFault.Identifier ≡ PeerFault.PeerAs = r.0 in cc)
  reason_by PeerFault.Identifier (inr r) =
      let both = and_parts (eqb s.local_as s.peer_as) (same_id t.id s.id) r.1 in
      inr (inl (record { code_is = refl; subcode_is = refl; one_as = eqb-true s.local_as s.peer_as both.0; same_id = same_id_is t.id s.id both.1 }))

  pub refused_for : (fault : PeerFault) → agreement s (own_of t) ≡ Err fault → HasReason s t side moves (peer_notification fault).code (peer_notification fault).subcode
  refused_for fault is = reason_by fault (refused (is_peer s t) (has_own_id s t) (context_of s (own_of t)) fault is)
