-- A frame: the octets of one whole message (RFC 4271, section 4.1).
use Rattle.std.specs.Prelude.{◌≡◌, ℕ, ◌+◌, ◌<◌, List, ◌++◌, length, nat_lt, Result, Ok, Err, if◌then◌else◌}
use Rattle.bgp_frame.specs.declared.kind.Kind.{Kind}
use Rattle.bgp_frame.specs.declared.fault.HeadFault.{HeadFault}
use Rattle.bgp_frame.specs.Types.{IsLengthIn, Types}
use Rattle.bgp_frame.specs.Kind.{plain}
use Rattle.bgp_frame.specs.Head.{HeaderIn, header_in, head_of_in}

-- a message before its body is judged
pub record MessageIn (K : Type 0) : Type 0 where
  pub kind : K
  pub body : List ℕ

-- the length that a header asks for: 19 octets, and no more where it has a fault, else its Length
abbrev pub wanted_by : {K : Type 0} → Result (HeaderIn K) HeadFault → ℕ
wanted_by (Ok head) = head.len
wanted_by (Err f) = 19

module _ {K : Type 0} (ty : Types K) where
  -- the header, whose Length counts itself too, and the body
  abbrev pub octets_of_in : MessageIn K → List ℕ
  octets_of_in m = header_in ty m.kind (19 + length m.body) ++ m.body

  -- b is the whole message m
  pub record IsFrameIn (m : MessageIn K) (b : List ℕ) : Type 0 where
    pub octets : b ≡ octets_of_in m
    pub allowed : IsLengthIn ty m.kind (length b)

  abbrev pub IsWholeIn : List ℕ → Type 0
  IsWholeIn b = (m : MessageIn K) × IsFrameIn m b

  -- 19 octets whose header has a fault
  abbrev pub IsFaultyIn : List ℕ → Type 0
  IsFaultyIn b = (length b ≡ 19) × ((f : HeadFault) × (head_of_in ty b ≡ Err f))

  -- the length of what b begins: 19 for a header, and no more where it has a fault, else as its Length says
  unfoldable pub wanted_in : List ℕ → ℕ
  wanted_in b = if nat_lt (length b) 19 then 19 else wanted_by (head_of_in ty b)

  -- b is less than a message: fewer than 19 octets, or a header without fault and less than its Length
  abbrev pub WaitsIn : List ℕ → Type 0
  WaitsIn b = length b < wanted_in b

-- ---- by the types of RFC 4271

abbrev pub Message : Type 0
Message = MessageIn Kind

abbrev pub octets_of : Message → List ℕ
octets_of = octets_of_in plain

abbrev pub IsFrame : Message → List ℕ → Type 0
IsFrame = IsFrameIn plain

abbrev pub IsWhole : List ℕ → Type 0
IsWhole = IsWholeIn plain

abbrev pub IsFaulty : List ℕ → Type 0
IsFaulty = IsFaultyIn plain

abbrev pub wanted : List ℕ → ℕ
wanted = wanted_in plain

abbrev pub Waits : List ℕ → Type 0
Waits = WaitsIn plain
