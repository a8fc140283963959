-- The effect of a message, state by state.
use Rattle.bgp_machine.proofs.Prelude.{◌≡◌, true, Option, Some, refl, sym, ap, subst, ◌∙◌, inr, Kind, Message, Context, Settings, verdict_of, has_value}
use Rattle.bgp_machine.proofs.Prelude.{Heard, State, on_heard, suits, has_routes, SaysVerdict, IsSaid, Hears, Standing, listens, TakesMemory, on_message}

-- only an UPDATE in Established has routes
quiet_in_open_sent : (h : Heard) → suits State.OpenSent h ≡ true → has_routes h ≡ true → ⊥
quiet_in_open_sent (Heard.Open v c) fits has = absurd cc
quiet_in_open_sent Heard.Keepalive fits has = absurd cc
quiet_in_open_sent (Heard.Update v) fits has = absurd cc
quiet_in_open_sent (Heard.Withdraw v) fits has = absurd cc
quiet_in_open_sent (Heard.Notification n) fits has = absurd cc
quiet_in_open_sent (Heard.Reset n) fits has = absurd cc
quiet_in_open_sent (Heard.Refused n) fits has = absurd cc

quiet_in_open_confirm : (h : Heard) → suits State.OpenConfirm h ≡ true → has_routes h ≡ true → ⊥
quiet_in_open_confirm (Heard.Open v c) fits has = absurd cc
quiet_in_open_confirm Heard.Keepalive fits has = absurd cc
quiet_in_open_confirm (Heard.Update v) fits has = absurd cc
quiet_in_open_confirm (Heard.Withdraw v) fits has = absurd cc
quiet_in_open_confirm (Heard.Notification n) fits has = absurd cc
quiet_in_open_confirm (Heard.Reset n) fits has = absurd cc
quiet_in_open_confirm (Heard.Refused n) fits has = absurd cc

same_context : (a b : Context) (o : Option Context) → o ≡ Some a → o ≡ Some b → a ≡ b
same_context a b o is also = let same : Some a ≡ Some b = sym is ∙ also in cc

-- the views of a verdict are those of the message
pub verdict_said : (s : Settings) (x : Standing) (m : Message) (ctx : Context) (h : Heard) → x.context ≡ Some ctx → SaysVerdict (verdict_of ctx m.body) h → IsSaid s x m h
verdict_said s x m ctx (Heard.Open v c) has says = absurd says
verdict_said s x m ctx Heard.Keepalive has says = absurd says
verdict_said s x m ctx (Heard.Update v) has says = λ c is. subst (λ (y : Context). SaysVerdict (verdict_of y m.body) (Heard.Update v)) (same_context ctx c x.context has is) says
verdict_said s x m ctx (Heard.Withdraw v) has says = λ c is. subst (λ (y : Context). SaysVerdict (verdict_of y m.body) (Heard.Withdraw v)) (same_context ctx c x.context has is) says
verdict_said s x m ctx (Heard.Notification n) has says = absurd says
verdict_said s x m ctx (Heard.Reset n) has says = tt
verdict_said s x m ctx (Heard.Refused n) has says = absurd says

module _ (s : Settings) (x : Standing) (m : Message) (h : Heard) (said : IsSaid s x m h) where
  hears_at : (st : State) → x.state ≡ st → listens st ≡ true → on_heard x h ≡ on_message s x st m.kind m.body → suits st h ≡ true
      → (has_routes h ≡ true → TakesMemory x m) → Hears s x m h
  hears_at st is up does fits memory = record {
    up = ap listens is ∙ up;
    does = does ∙ ap (λ (t : State). on_message s x t m.kind m.body) (sym is);
    suits = ap (λ (t : State). suits t h) is ∙ fits;
    said = said;
    memory = memory;
  }

  pub hears_in_open_sent : x.state ≡ State.OpenSent → on_heard x h ≡ on_message s x State.OpenSent m.kind m.body → suits State.OpenSent h ≡ true → Hears s x m h
  hears_in_open_sent is does fits = hears_at State.OpenSent is refl does fits (λ has. absurd (quiet_in_open_sent h fits has))

  pub hears_in_open_confirm : x.state ≡ State.OpenConfirm → on_heard x h ≡ on_message s x State.OpenConfirm m.kind m.body → suits State.OpenConfirm h ≡ true → Hears s x m h
  hears_in_open_confirm is does fits = hears_at State.OpenConfirm is refl does fits (λ has. absurd (quiet_in_open_confirm h fits has))

  pub hears_in_established : (ctx : Context) → x.state ≡ State.Established → x.context ≡ Some ctx → on_heard x h ≡ on_message s x State.Established m.kind m.body
      → suits State.Established h ≡ true → (has_routes h ≡ true → m.kind ≡ Kind.Update) → (has_routes h ≡ true → has_value (verdict_of ctx m.body) ≡ true) → Hears s x m h
  hears_in_established ctx is agreed does fits update value =
      hears_at State.Established is refl does fits (λ has. inr (record { in_established = is; is_update = update has; context = ctx; has_context = agreed; no_reset = value has }))
