-- What two OPENs agree on.
use Rattle.std.specs.Prelude.{◌≡◌, ℕ, List, Option, None, Some, Result, Ok, Err}
use Rattle.bgp_frame.specs.Step.{Step}
use Rattle.bgp_frame.specs.Prelude.{ShowsFront}
use Rattle.bgp_frame.specs.declared.step.Step.TheVariants as step
use Rattle.bgp_open.specs.declared.context.Context.{Context}
use Rattle.bgp_open.specs.declared.message.Open.{Open}
use Rattle.bgp_open.specs.Prelude.{agreed_context}
use Rattle.ristulva_c.specs.declared.context.SessionContext.{SessionContext}
use Rattle.ristulva_c.specs.declared.status.TheConstants.{INCOMPLETE, OK, REFUSED}
use Rattle.ristulva_c.specs.Agreed.{context_said}
use Rattle.ristulva_c.specs.Opens.{accepted_in}

-- the accepted OPEN, or the status where there is none
abbrev pub or_refused : Option Open → Result Open ℕ
or_refused (Some o) = Ok o
or_refused None = Err REFUSED

-- the OPEN that octets begin with: none of less than a message, of a header with a fault, of another message, and of an OPEN with a fault
abbrev pub open_at : Step → Result Open ℕ
open_at step.More = Err INCOMPLETE
open_at (step.Frame f) = or_refused (accepted_in f.kind f.body.now)
open_at (step.Fault fault) = Err REFUSED

-- what a call has: its status, and the caller's memory before and after it
pub record Agreeing : Type 0 where
  pub status : ℕ
  pub before : SessionContext
  pub behind : SessionContext
  pub hold_before : ℕ
  pub hold_behind : ℕ

pub record IsLeft (answer : ℕ) (a : Agreeing) : Type 0 where
  pub status : a.status ≡ answer
  pub context : a.behind ≡ a.before
  pub hold : a.hold_behind ≡ a.hold_before

pub record IsAgreed (ctx : Context) (a : Agreeing) : Type 0 where
  pub status : a.status ≡ OK
  pub context : a.behind ≡ context_said ctx
  pub hold : a.hold_behind ≡ ctx.hold

-- what both agree on; where one of them isn't an OPEN, nothing is changed, and the status is that of the first that isn't
abbrev pub AgreesBy : Result Open ℕ → Result Open ℕ → Agreeing → Type 0
AgreesBy (Ok ours) (Ok theirs) a = IsAgreed (agreed_context ours theirs) a
AgreesBy (Ok ours) (Err answer) a = IsLeft answer a
AgreesBy (Err answer) theirs a = IsLeft answer a

-- the OPENs that octets begin with
pub record AreAgreed (ours theirs : List ℕ) (a : Agreeing) : Type 0 where
  pub found : Step
  pub shows : ShowsFront ours found
  pub other : Step
  pub shows_other : ShowsFront theirs other
  pub agrees : AgreesBy (open_at found) (open_at other) a
