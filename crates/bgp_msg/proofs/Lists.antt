-- Which messages have values that need memory.
use Rattle.std.proofs.Common.{◌≡◌, ◌⊎◌, inl, inr, true, false, List, ℕ, refl}
use Rattle.bgp_frame.specs.declared.kind.Kind.{Kind}
use Rattle.bgp_frame.specs.declared.kind.Kind.TheVariants as kind
use Rattle.bgp_frame.specs.Frame as frame
use Rattle.bgp_open.specs.declared.context.Context.{Context}
use Rattle.bgp_msg.specs.declared.outcome.Outcome.{Outcome}
use Rattle.bgp_msg.specs.Prelude.{of_body, out_of, is_reset, has_lists}
use Rattle.bgp_msg.specs.declared.outcome.Outcome.TheVariants as outcome

of_kind : (ctx : Context) (k : Kind) (body : List ℕ) → has_lists (of_body ctx k body) ≡ true → (k ≡ kind.Open) ⊎ (k ≡ kind.Update)
of_kind ctx kind.Open body e = inl refl
of_kind ctx kind.Update body e = inr refl
of_kind ctx kind.Notification body e = absurd cc
of_kind ctx kind.Keepalive body e = absurd cc

pub lists_have_kinds : (ctx : Context) (m : frame.Message) → has_lists (out_of ctx m) ≡ true → (m.kind ≡ kind.Open) ⊎ (m.kind ≡ kind.Update)
lists_have_kinds ctx m e = of_kind ctx m.kind m.body e

pub lists_go_on : (o : Outcome) → has_lists o ≡ true → is_reset o ≡ false
lists_go_on (outcome.Took said notes) e = refl
lists_go_on (outcome.Withdraw routes notes) e = refl
lists_go_on (outcome.Reset n) e = absurd cc
