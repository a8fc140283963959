-- What acting leaves unchanged, and in which order it can be done.
use Rattle.bgp_session.proofs.Prelude.{◌≡◌, List, [], ◌∷◌, ◌++◌, refl, sym, ap, ◌∙◌, Settings, Action, Machine, own_octets, Side, with_machine, with_session}
use Rattle.bgp_session.proofs.Prelude.{towards, Pair, pair, acted, all_acted}

module _ (side : Side) where
  -- the session can be replaced before or after, where its settings stay
  acted_moves : (p : Pair) (x : Machine) (a : Action) → x.settings ≡ p.this.session.settings → acted side (with_machine p x) a ≡ with_machine (acted side p a) x
  acted_moves p x Action.Connect same = refl
  acted_moves p x Action.Close same = refl
  acted_moves p x Action.SendOpen same = ap (λ (s : Settings). pair (with_session p.this x) (towards p.other (own_octets s)) p.notes) same
  acted_moves p x Action.SendKeepalive same = refl
  acted_moves p x (Action.SendNotification why) same = refl
  acted_moves p x (Action.Arm timer seconds) same = refl
  acted_moves p x (Action.Disarm timer) same = refl
  acted_moves p x (Action.Announce u info) same = refl
  acted_moves p x (Action.Withdraw routes) same = refl
  acted_moves p x Action.Flush same = refl

  -- acting leaves the session unchanged
  acted_keeps : (p : Pair) (a : Action) → (acted side p a).this.session ≡ p.this.session
  acted_keeps p a = ap (λ (q : Pair). q.this.session) (acted_moves p p.this.session a refl)

  pub all_keeps : (p : Pair) (actions : List Action) → (all_acted side p actions).this.session ≡ p.this.session
  all_keeps p [] = refl
  all_keeps p (a ∷ later) = all_keeps (acted side p a) later ∙ acted_keeps p a

  pub all_moves : (p : Pair) (x : Machine) (actions : List Action) → x.settings ≡ p.this.session.settings
      → all_acted side (with_machine p x) actions ≡ with_machine (all_acted side p actions) x
  all_moves p x [] same = refl
  all_moves p x (a ∷ later) same =
      ap (λ (q : Pair). all_acted side q later) (acted_moves p x a same)
      ∙ all_moves (acted side p a) x later (same ∙ ap (λ (m : Machine). m.settings) (sym (acted_keeps p a)))

  pub acted_both : (p : Pair) (first rest : List Action) → all_acted side p (first ++ rest) ≡ all_acted side (all_acted side p first) rest
  acted_both p [] rest = refl
  acted_both p (a ∷ first) rest = acted_both (acted side p a) first rest
