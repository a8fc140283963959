-- What octets are: nothing yet, a message, or a header with a fault (RFC 4271, sections 4.1 and 6.1).
use Rattle.std.specs.Prelude.{nat_lt, ℕ, List, length, drop, Option, None, Some, Result, if◌then◌else◌}
use Rattle.std.specs.Result.{result_map_both}
use Rattle.bgp_frame.specs.declared.fault.HeadFault.{HeadFault}
use Rattle.bgp_frame.specs.Types.{Types}
use Rattle.bgp_frame.specs.Kind.{plain}
use Rattle.bgp_frame.specs.Frame.{Message, MessageIn, wanted_in}
use Rattle.bgp_frame.specs.Head.{head_of_in}

module _ {K : Type 0} (ty : Types K) where
  -- the message that the octets are, as their header says, or the header's fault
  abbrev pub content_in : List ℕ → Result (MessageIn K) HeadFault
  content_in b = result_map_both (λ head. record { kind = head.kind; body = drop 19 b }) (λ fault. fault) (head_of_in ty b)

  -- an incomplete message is nothing yet
  abbrev pub content_of_in : List ℕ → Option (Result (MessageIn K) HeadFault)
  content_of_in b = if nat_lt (length b) (wanted_in ty b) then None else Some (content_in b)

-- ---- by the types of RFC 4271

abbrev pub content : List ℕ → Result Message HeadFault
content = content_in plain

abbrev pub content_of : List ℕ → Option (Result Message HeadFault)
content_of = content_of_in plain
