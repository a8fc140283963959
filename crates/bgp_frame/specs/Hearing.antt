-- Receivers of a stream, which hold octets of it: what they do on a piece, call by call and octet by octet. A decoder and a session are such.
use Rattle.std.specs.Prelude.{◌≡◌, ◌<◌, ◌⊎◌, ℕ, ◌+◌, zero, suc, Bool, true, false, List, [], ◌∷◌, ◌++◌, length, map, take, drop, Option, None, Some, option_map, Result, Ok, Err}
use Rattle.std.specs.List.{flat_map}
use Rattle.bgp_frame.specs.declared.fault.HeadFault.{HeadFault}
use Rattle.bgp_frame.specs.Types.{Types}
use Rattle.bgp_frame.specs.Kind.{plain}
use Rattle.bgp_frame.specs.Content.{content_of_in}
use Rattle.bgp_frame.specs.Frame.{Message, MessageIn, IsFrameIn, WaitsIn}
use Rattle.bgp_frame.specs.Framer.{IsHeldIn}
use Rattle.bgp_frame.specs.Head.{head_of_in}
use Rattle.bgp_frame.specs.Pull.{PullsIn, IsToFeedIn}
use Rattle.bgp_frame.specs.Takes.{TakesIn}

-- The types that are read; the octets that are held, and the same receiver with other octets; whether octets are consumed at all; the outcome of a
-- message, or of a header with a fault; the actions on it, in order; and the receiver after it, with nothing held
pub record Hearer (K X Said Action : Type 0) : Type 0 where
  pub types : Types K
  pub held : X → List ℕ
  pub holding : X → List ℕ → X
  pub listens : X → Bool
  pub comes : X → Result (MessageIn K) HeadFault → Said
  pub actions : Said → List Action
  pub behind : X → Said → X

module _ {K : Type 0} (ty : Types K) where
  -- octets are this message, or this fault of a header
  abbrev pub IsContentIn : Result (MessageIn K) HeadFault → List ℕ → Type 0
  IsContentIn (Ok m) b = IsFrameIn ty m b
  IsContentIn (Err f) b = (length b ≡ 19) × (head_of_in ty b ≡ Err f)

  -- octets are consumed until a message is whole, or a header has a fault; and none where the receiver consumes none at all
  abbrev pub CountsFedIn : Bool → List ℕ → List ℕ → ℕ → Type 0
  CountsFedIn true held piece n = TakesIn ty held piece n × (WaitsIn ty held → 0 < length piece → 0 < n)
  CountsFedIn false held piece n = n ≡ 0

-- the same by the types of RFC 4271
abbrev pub IsContent : Result Message HeadFault → List ℕ → Type 0
IsContent = IsContentIn plain

abbrev pub CountsFed : Bool → List ℕ → List ℕ → ℕ → Type 0
CountsFed = CountsFedIn plain

-- an octet is consumed where octets are consumed at all
abbrev pub with_octet : Bool → List ℕ → ℕ → List ℕ
with_octet true held octet = held ++ octet ∷ []
with_octet false held octet = held

-- the actions, and the receiver after them
pub record Done (X Action : Type 0) : Type 0 where
  pub actions : List Action
  pub session : X

abbrev pub behind : {X Action : Type 0} → List Action → Done X Action → Done X Action
behind earlier later = record { actions = earlier ++ later.actions; session = later.session }

abbrev pub one_if_any : List ℕ → ℕ
one_if_any [] = 0
one_if_any (octet ∷ later) = 1

module _ {K X Said Action : Type 0} (h : Hearer K X Said Action) where
  -- ---- one call

  -- the same, with n octets of the piece held after what was held
  abbrev pub behind_feed : X → List ℕ → ℕ → X
  behind_feed x piece n = h.holding x (h.held x ++ take n piece)

  -- n octets of the piece are consumed
  abbrev pub IsFed : X → List ℕ → ℕ → X → Type 0
  IsFed x piece n y = CountsFedIn h.types (h.listens x) (h.held x) piece n × (y ≡ behind_feed x piece n)

  -- what is held is a message or a header with a fault: it is removed, and these actions are done
  pub record Judges (x : X) (actions : List Action) (y : X) : Type 0 where
    pub up : h.listens x ≡ true
    pub what : Result (MessageIn K) HeadFault
    pub is_held : IsContentIn h.types what (h.held x)
    pub does : actions ≡ h.actions (h.comes x what)
    pub leaves : y ≡ h.behind x (h.comes x what)

  -- nothing is done where what is held is incomplete
  abbrev pub IsJudged : X → Option (List Action) → X → Type 0
  IsJudged x None y = WaitsIn h.types (h.held x) × (y ≡ x)
  IsJudged x (Some actions) y = Judges x actions y

  -- a pull where no octets are consumed at all
  pub record PullsNothing (x : X) (n : ℕ) (y : X) : Type 0 where
    pub deaf : h.listens x ≡ false
    pub none : n ≡ 0
    pub same : y ≡ x

  -- a pull that feeds
  pub record PullsSome (x : X) (piece : List ℕ) (n : ℕ) (y : X) : Type 0 where
    pub up : h.listens x ≡ true
    pub to_feed : IsToFeedIn h.types (h.held x) piece
    pub fed : IsFed x piece n y

  -- a pull of what is held, or of what the piece begins with: the actions are those if all of it were held
  pub record PullsNext (x : X) (piece : List ℕ) (n : ℕ) (actions : List Action) (y : X) : Type 0 where
    pub pulls : PullsIn h.types (h.held x) piece n
    pub next : Judges (behind_feed x piece n) actions y

  -- the number of octets of a piece that a pull consumes, and the actions on them or on what was held
  abbrev pub IsPulled : X → List ℕ → ℕ → Option (List Action) → X → Type 0
  IsPulled x piece n None y = PullsNothing x n y ⊎ PullsSome x piece n y
  IsPulled x piece n (Some actions) y = PullsNext x piece n actions y

  abbrev pub IsLeft : X → Option (List Action) → X → Type 0
  IsLeft x None y = y ≡ x
  IsLeft x (Some actions) y = Judges x actions y

  -- what every call does: it consumes what `feed` consumes, and then what is held is judged, where there are actions
  pub record IsFedAndJudged (x : X) (piece : List ℕ) (n : ℕ) (found : Option (List Action)) (y : X) : Type 0 where
    pub fed : IsFed x piece n (behind_feed x piece n)
    pub next : IsLeft (behind_feed x piece n) found y

  -- a feed, followed by a look at what is held
  abbrev pub by_feed : X → List ℕ → ℕ → Option (List Action) → X → Type 0
  by_feed x piece n found y = IsFed x piece n (behind_feed x piece n) × IsJudged (behind_feed x piece n) found y

  -- ---- octet by octet

  -- the outcome of what is held, where it is whole
  abbrev pub judged : X → Option Said
  judged x = option_map (h.comes x) (content_of_in h.types (h.held x))

  abbrev pub done_by : X → Option Said → Done X Action
  done_by x None = record { actions = []; session = x }
  done_by x (Some said) = record { actions = h.actions said; session = h.behind x said }

  abbrev pub settled : X → Done X Action
  settled x = done_by x (judged x)

  abbrev pub by_octet : X → ℕ → Done X Action
  by_octet x octet = settled (h.holding x (with_octet (h.listens x) (h.held x) octet))

  -- octet by octet, and what is held is judged after each
  abbrev pub by_octets : X → List ℕ → Done X Action
  by_octets x [] = record { actions = []; session = x }
  by_octets x (octet ∷ later) = behind (by_octet x octet).actions (by_octets (by_octet x octet).session later)

  -- nothing is left to do, and nothing is held where no octets are consumed
  pub record IsAtRest (x : X) : Type 0 where
    pub can_hold : IsHeldIn h.types (h.held x)
    pub nothing_to_do : judged x ≡ None
    pub holds_none : h.listens x ≡ false → h.held x ≡ []

  -- this holds between two calls
  pub record IsReady (x : X) : Type 0 where
    pub can_hold : IsHeldIn h.types (h.held x)
    pub holds_none : h.listens x ≡ false → h.held x ≡ []

  -- what is left to do: what is held is judged, and then the octets are received
  abbrev pub left_to_do : X → List ℕ → Done X Action
  left_to_do x rest = behind (settled x).actions (by_octets (settled x).session rest)

  -- each call makes this less: it consumes octets, or judges what is held
  abbrev pub weight : X → List ℕ → ℕ
  weight x rest = length rest + length rest + one_if_any (h.held x)

-- ---- call after call

-- a way to receive a piece: the number of octets consumed; the actions, where something was whole; and the receiver after it
abbrev pub Way : Type 0 → Type 0 → Type 1
Way X Action = X → List ℕ → ℕ → Option (List Action) → X → Type 0

abbrev pub given : {Action : Type 0} → Option (List Action) → List Action
given None = []
given (Some actions) = actions

-- a piece, and the number of calls that receive it
pub record Run : Type 0 where
  pub octets : List ℕ
  pub calls : ℕ

abbrev pub all_octets : List Run → List ℕ
all_octets runs = flat_map (λ r. r.octets) runs

module _ {X Action : Type 0} (way : Way X Action) where
  -- a call consumes octets of the piece, and later calls the rest
  pub record CallsOn (later : List ℕ → X → List Action → X → Type 0) (piece : List ℕ) (x : X) (actions : List Action) (y : X) : Type 0 where
    pub count : ℕ
    pub found : Option (List Action)
    pub between : X
    pub call : way x piece count found between
    pub rest : List Action
    pub goes_on : later (drop count piece) between rest y
    pub in_order : actions ≡ given found ++ rest

  -- n calls, and a last one that consumes nothing and finds nothing: the rest of the piece is dropped
  abbrev pub Calls : ℕ → List ℕ → X → List Action → X → Type 0
  Calls zero piece x actions y = way x piece 0 None y × (actions ≡ [])
  Calls (suc n) piece x actions y = CallsOn (Calls n) piece x actions y

  -- a piece is received, and the others later
  pub record RunsOn (later : X → List Action → X → Type 0) (run : Run) (x : X) (actions : List Action) (y : X) : Type 0 where
    pub first : List Action
    pub between : X
    pub calls : Calls run.calls run.octets x first between
    pub rest : List Action
    pub goes_on : later between rest y
    pub in_order : actions ≡ first ++ rest

  -- these pieces are received, one after the other
  abbrev pub Runs : List Run → X → List Action → X → Type 0
  Runs [] x actions y = (actions ≡ []) × (y ≡ x)
  Runs (run ∷ later) x actions y = RunsOn (Runs later) run x actions y

  -- octets that come in these pieces can be received by some number of calls
  pub record CanBeHeard (x : X) (pieces : List (List ℕ)) : Type 0 where
    pub runs : List Run
    pub are : map (λ r. r.octets) runs ≡ pieces
    pub actions : List Action
    pub session : X
    pub heard : Runs runs x actions session
