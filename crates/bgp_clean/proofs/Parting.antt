-- The octets of the messages that replace an UPDATE.
use Rattle.bgp_clean.proofs.Prelude.{◌≡◌, ℕ, ◌+◌, ◌<◌, ◌≤◌, Bool, true, false, ◌||◌, cond, eqb, List, [], ◌∷◌, length, refl, sym, ap, ◌∙◌, flat_map, or_from, le-ltb, append-nil, if◌then◌else◌}
use Rattle.bgp_clean.proofs.Prelude.{Context, IPV6, Update, Message, attributes_octets, canonical, written_body, written, length-octets_of, end_of, end_unreach, refuses_in}
use Rattle.bgp_frame.specs.Prelude.{octets_of}
use Rattle.bgp_update.specs.Prelude.{body_octets}
use Rattle.bgp_clean.specs.declared.limits.Limits.{Limits}
use Rattle.bgp_clean.specs.Limits.{breaks, leaves_no_room}
use Rattle.bgp_clean.specs.steps.Written.{updates_octets}
use Rattle.bgp_clean.proofs.Ends.{with_unreach, unreach-list}
use Rattle.std.proofs.lemmas.Bool.{lt-ltb}
use Rattle.bgp_frame.specs.Kind.{plain}
use Rattle.bgp_frame.specs.steps.AreTypes.{plain-are}

-- an UPDATE as a whole message
pub update_long : (ctx : Context) (u : Update) → length (updates_octets ctx (u ∷ [])) ≡ 19 + length (written_body ctx u)
update_long ctx u = ap length (append-nil (octets_of (written ctx (Message.Update u)))) ∙ length-octets_of plain plain-are (written ctx (Message.Update u))

-- ---- what is passed on of an announcement

module _ (ctx : Context) (l : Limits) (part gone : Update) where
  -- it is refused, or not
  pub by_refusal : (t : Bool) → refuses_in ctx l part ≡ t
      → updates_octets ctx (cond t gone part ∷ []) ≡ updates_octets ctx ((if refuses_in ctx l part then gone else part) ∷ [])
  by_refusal t e = ap (λ (b : Bool). updates_octets ctx (cond b gone part ∷ [])) (sym e)

  pub goes_on : breaks l part ≡ false → length (written_body ctx part) + l.room ≤ 4077 → refuses_in ctx l part ≡ false
  goes_on keeps fits = or_from (breaks l part) (leaves_no_room l ctx part) keeps (le-ltb 4077 (length (written_body ctx part) + l.room) fits)

  pub stays_back : 4077 < length (written_body ctx part) + l.room → refuses_in ctx l part ≡ true
  stays_back more = right_true (breaks l part) (leaves_no_room l ctx part) (lt-ltb 4077 (length (written_body ctx part) + l.room) more)
    where
      right_true : (x y : Bool) → y ≡ true → (x || y) ≡ true
      right_true true y e = refl
      right_true false y e = e

-- ---- an End-of-RIB

module _ (ctx : Context) where
  end_attributes : (ip6 : Bool) → attributes_octets ctx (with_unreach (end_unreach ip6)) ≡ cond ip6 (128 ∷ 15 ∷ 3 ∷ 0 ∷ 2 ∷ 1 ∷ []) []
  end_attributes true = ap (flat_map (canonical ctx)) (unreach-list (end_unreach true))
  end_attributes false = ap (flat_map (canonical ctx)) (unreach-list (end_unreach false))

  pub end_body : (family : ℕ) (ip6 : Bool) → eqb family IPV6 ≡ ip6
      → cond ip6 (0 ∷ 0 ∷ 0 ∷ 6 ∷ 128 ∷ 15 ∷ 3 ∷ 0 ∷ 2 ∷ 1 ∷ []) (0 ∷ 0 ∷ 0 ∷ 0 ∷ []) ≡ written_body ctx (end_of family)
  end_body family true e =
      ap (λ (b : List ℕ). body_octets [] b []) (sym (end_attributes true)) ∙ ap (λ (t : Bool). written_body ctx (record { withdrawn = []; attrs = with_unreach (end_unreach t); nlri = [] })) (sym e)
  end_body family false e =
      ap (λ (b : List ℕ). body_octets [] b []) (sym (end_attributes false)) ∙ ap (λ (t : Bool). written_body ctx (record { withdrawn = []; attrs = with_unreach (end_unreach t); nlri = [] })) (sym e)
