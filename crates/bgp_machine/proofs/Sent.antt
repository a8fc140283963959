-- What is sent in Established, and why it isn't.
use Rattle.bgp_machine.proofs.Prelude.{◌≡◌, ℕ, ◌⊎◌, Bool, true, false, List, ◌++◌, Option, Some, None, refl, ap, ◌∙◌, inl, inr, Context, Update, Action}
use Rattle.bgp_machine.proofs.Prelude.{State, why_unsent, is_told_too_long, told_octets, unless_invalid, refusal_at, refusal_of, keepalive_on, IsSent}
use Rattle.bgp_machine.proofs.Prelude.{LacksMemory, IsRefused, IsTellFault, Machine, established_in}
use Rattle.bgp_machine.specs.declared.send_fault.SendFault.{SendFault}

refusal_by : (st : State) (c : Option Context) (ctx : Context) (u : Update) → established_in st c ≡ Some ctx → refusal_at st c u ≡ unless_invalid (why_unsent ctx u) (is_told_too_long ctx u)
refusal_by State.Idle c ctx u is = absurd cc
refusal_by State.Connect c ctx u is = absurd cc
refusal_by State.Active c ctx u is = absurd cc
refusal_by State.OpenSent c ctx u is = absurd cc
refusal_by State.OpenConfirm c ctx u is = absurd cc
refusal_by State.Established c ctx u is = rw is refl

agreed_by : (st : State) (c : Option Context) (ctx : Context) → established_in st c ≡ Some ctx → c ≡ Some ctx
agreed_by State.Idle c ctx is = absurd cc
agreed_by State.Connect c ctx is = absurd cc
agreed_by State.Active c ctx is = absurd cc
agreed_by State.OpenSent c ctx is = absurd cc
agreed_by State.OpenConfirm c ctx is = absurd cc
agreed_by State.Established c ctx is = is

module _ (x : Machine) (u : Update) (ctx : Context) (is : established_in x.standing.state x.standing.context ≡ Some ctx) where
  agreed : x.standing.context ≡ Some ctx
  agreed = agreed_by x.standing.state x.standing.context ctx is

  pub refusal : refusal_of x u ≡ unless_invalid (why_unsent ctx u) (is_told_too_long ctx u)
  refusal = refusal_by x.standing.state x.standing.context ctx u is

  refusal_long : (long : Bool) → why_unsent ctx u ≡ None → is_told_too_long ctx u ≡ long → refusal_of x u ≡ unless_invalid None long
  refusal_long long none is_long = refusal ∙ ap (λ w. unless_invalid w (is_told_too_long ctx u)) none ∙ ap (λ (b : Bool). unless_invalid None b) is_long

  lacks : (long : Bool) → is_told_too_long ctx u ≡ long → why_unsent ctx u ≡ None → (ctx.as4 ≡ false) ⊎ (long ≡ false) → LacksMemory x u
  lacks true is_long none (inl narrow) = record { context = ctx; agreed = agreed; may_lack = inr (narrow, refusal_long true none is_long) }
  lacks true is_long none (inr short) = absurd (let no : true ≡ false = short in cc)
  lacks false is_long none may = record { context = ctx; agreed = agreed; may_lack = inl (refusal_long false none is_long) }

  pub refused : (why : SendFault) → why_unsent ctx u ≡ None → IsTellFault ctx.as4 (is_told_too_long ctx u) why → IsRefused x u why
  refused SendFault.NotEstablished none told = absurd told
  refused (SendFault.NotValid w) none told = absurd told
  refused SendFault.TooLong none told = refusal_long true none told
  refused SendFault.Memory none told = lacks (is_told_too_long ctx u) refl none told

  pub sent : (actions : List Action) (before after : List ℕ) → why_unsent ctx u ≡ None → is_told_too_long ctx u ≡ false → actions ≡ keepalive_on ctx
      → after ≡ before ++ told_octets ctx u → IsSent x u actions before after
  sent actions before after none short does appends = record { context = ctx; agreed = agreed; allowed = refusal_long false none short; does = does; appends = appends }
