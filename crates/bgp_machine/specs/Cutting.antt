-- Octets that a session receives in pieces, by whatever calls, and octet by octet.
use Rattle.std.specs.Prelude.{◌≡◌, ℕ, zero, suc, List, [], ◌++◌, Option, None, Some}
use Rattle.arrayvec.specs.ArrayVec.{ArrayVec}
use Rattle.bgp_frame.specs.Prelude.{Waits, Run, Runs, CanBeHeard}
use Rattle.bgp_frame.specs.Hearing as hearing
use Rattle.bgp_machine.specs.declared.action.Action.{Action}
use Rattle.bgp_machine.specs.Session.{Machine, IsFed, hearer}

-- a session with nothing left to do: a step gives nothing, and nothing is held where no octets are accepted
abbrev pub IsAtRest : Machine → Type 0
IsAtRest x = hearing.IsAtRest hearer x

-- where a step does nothing, the session is at rest
abbrev pub RestsUnless : Option (ArrayVec Action) → Machine → Type 0
RestsUnless None x = IsAtRest x
RestsUnless (Some actions) x = Unit {0}

-- where a pull does nothing, the session is at rest, unless it consumed octets that completed what is held
pub record CanRest (n : ℕ) (x : Machine) : Type 0 where
  pub none_taken : n ≡ 0 → IsAtRest x
  pub waiting : Waits x.held → IsAtRest x

abbrev pub RestsBehind : ℕ → Option (ArrayVec Action) → Machine → Type 0
RestsBehind n None x = CanRest n x
RestsBehind n (Some actions) x = Unit {0}

-- a piece, and the number of feeds that it takes
abbrev pub Piece : Type 0
Piece = Run

abbrev pub joined : List Piece → List ℕ
joined pieces = hearing.all_octets pieces

-- a step gives something, and others follow
pub record StepsOn (later : Machine → List Action → Machine → Type 0) (x : Machine) (actions : List Action) (y : Machine) : Type 0 where
  pub first : List Action
  pub between : Machine
  pub gives : hearing.IsJudged hearer x (Some first) between
  pub rest : List Action
  pub goes_on : later between rest y
  pub in_order : actions ≡ first ++ rest

-- n steps give something, and the one after them nothing
abbrev pub StepsUntilNone : ℕ → Machine → List Action → Machine → Type 0
StepsUntilNone zero x actions y = hearing.IsJudged hearer x None y × (actions ≡ [])
StepsUntilNone (suc n) x actions y = StepsOn (StepsUntilNone n) x actions y

-- steps are taken until one gives nothing: the first, or one after some that give something
abbrev pub AreStepped : Machine → Option (List Action) → Machine → Type 0
AreStepped x None y = StepsUntilNone 0 x [] y
AreStepped x (Some actions) y = (n : ℕ) × StepsUntilNone (suc n) x actions y

-- a feed consumes n octets of a piece, and steps are taken after it until one gives nothing
abbrev pub by_steps : Machine → List ℕ → ℕ → Option (List Action) → Machine → Type 0
by_steps x piece n found y = IsFed x piece n (hearing.behind_feed hearer x piece n) × AreStepped (hearing.behind_feed hearer x piece n) found y

-- the same with one step after the feed
abbrev pub by_one_step : Machine → List ℕ → ℕ → Option (List Action) → Machine → Type 0
by_one_step x piece n found y = hearing.by_feed hearer x piece n found y

-- these pieces are fed in order: after each feed steps are taken until one gives nothing, and the rest of the piece is fed again, until a feed
-- consumes nothing and the step after it gives nothing. One step after each feed does the same (the law `one_step_behind_a_feed_is_enough`)
abbrev pub Cuts : List Piece → Machine → List Action → Machine → Type 0
Cuts pieces x actions y = Runs by_steps pieces x actions y

-- octets that arrive in these pieces can be fed in some number of calls
abbrev pub CanBeFed : Machine → List (List ℕ) → Type 0
CanBeFed x pieces = CanBeHeard by_steps x pieces

-- the actions, and the session after them
abbrev pub Done : Type 0
Done = hearing.Done Machine Action

-- what is held is judged, where it is whole
abbrev pub settled : Machine → Done
settled x = hearing.settled hearer x

abbrev pub by_octet : Machine → ℕ → Done
by_octet x octet = hearing.by_octet hearer x octet

-- octet by octet, with a step after each
abbrev pub by_octets : Machine → List ℕ → Done
by_octets x octets = hearing.by_octets hearer x octets
