-- What can be pulled from a piece after what is held (RFC 4271, section 4.1).
use Rattle.std.specs.Prelude.{◌≡◌, ℕ, ◌<◌, ◌⊎◌, List, [], ◌++◌, length, take}
use Rattle.bgp_frame.specs.declared.kind.Kind.{Kind}
use Rattle.bgp_frame.specs.declared.pull.Pull as declared
use Rattle.bgp_frame.specs.declared.pull.Pull.TheVariants as pull
use Rattle.bgp_frame.specs.declared.step.Step.TheVariants as step
use Rattle.bgp_frame.specs.Types.{Types}
use Rattle.bgp_frame.specs.Kind.{plain}
use Rattle.bgp_frame.specs.Frame.{WaitsIn}
use Rattle.bgp_frame.specs.Step.{ShowsStepIn}
use Rattle.bgp_frame.specs.Takes.{TakesIn}

abbrev pub PullIn : Type 0 → Type 0
PullIn K = declared.Pull K

module _ {K : Type 0} (ty : Types K) where
  -- n octets of a piece are pulled, as many as a feed takes; but where some octets are held, none: a message is pulled whole from one buffer, and one
  -- that is held in part is incomplete until it is fed
  pub record PullsIn (held piece : List ℕ) (n : ℕ) : Type 0 where
    pub takes : TakesIn ty held piece n
    pub one_place : (n ≡ 0) ⊎ (held ≡ [])

  -- a piece is to be fed: what is held is incomplete, and some octets are held, or none are and the piece is incomplete
  pub record IsToFeedIn (held piece : List ℕ) : Type 0 where
    pub waits : WaitsIn ty held
    pub no_front : (0 < length held) ⊎ WaitsIn ty piece

  -- what a look finds: a piece that is to be fed; or what is held and what is pulled are a whole message, or a header with a fault
  abbrev pub IsPullIn : List ℕ → List ℕ → PullIn K → Type 0
  IsPullIn held piece pull.Feed = IsToFeedIn held piece
  IsPullIn held piece (pull.Frame n frame) = PullsIn held piece n × ShowsStepIn ty (held ++ take n piece) (step.Frame frame)
  IsPullIn held piece (pull.Fault n fault) = PullsIn held piece n × ShowsStepIn ty (held ++ take n piece) (step.Fault fault)

-- ---- by the types of RFC 4271

abbrev pub Pull : Type 0
Pull = PullIn Kind

abbrev pub Pulls : List ℕ → List ℕ → ℕ → Type 0
Pulls = PullsIn plain

abbrev pub IsToFeed : List ℕ → List ℕ → Type 0
IsToFeed = IsToFeedIn plain

abbrev pub IsPull : List ℕ → List ℕ → Pull → Type 0
IsPull = IsPullIn plain
