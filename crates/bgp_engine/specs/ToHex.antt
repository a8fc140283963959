-- What `to-hex` prints.
use Rattle.std.specs.Prelude.{ℕ, List, [], ◌∷◌, ◌++◌, codes, Result, Ok, Err, is_err}
use Rattle.bgp_engine.specs.Below.{as_it_is, encode_lower, HeadFault, Message, Refreshes, octets_of, head_notification, plain}
use Rattle.bgp_frame.specs.declared.notification.Notification.{Notification}
use Rattle.bgp_text.specs.Info.{notification_text}
use Rattle.bgp_engine.specs.declared.class.Class.{Class}
use Rattle.bgp_engine.specs.Refreshed.{Refreshed}
use Rattle.bgp_engine.specs.Rules.{Rules, IsReport}
use Rattle.bgp_engine.specs.Run.{Reports}
use Rattle.bgp_engine.specs.Tally.{no_tally}
use Rattle.bgp_engine.specs.Wide.{wide_rules}

-- a message, whose body isn't judged, or a header's fault
abbrev pub Framed : Type 0
Framed = Result Message HeadFault

abbrev pub hex_line : Message → List ℕ
hex_line m = encode_lower (octets_of m) ++ 10 ∷ []

abbrev pub refused_line : Notification → List ℕ
refused_line n = codes "fault " ++ (notification_text n ++ 10 ∷ [])

abbrev pub fault_line : HeadFault → List ℕ
fault_line f = refused_line (head_notification f)

-- the least Length of a ROUTE-REFRESH is tested as that of each message is by its header
abbrev pub refresh_hex : ℕ → ℕ → List ℕ → Refreshed → List ℕ
refresh_hex place len octets (Ok r) = encode_lower octets ++ 10 ∷ []
refresh_hex place len octets (Err n) = refused_line n

abbrev pub framed_line : Framed → List ℕ
framed_line (Ok m) = hex_line m
framed_line (Err f) = fault_line f

abbrev pub framed_class : Framed → Class
framed_class (Ok m) = Class.Took
framed_class (Err f) = Class.Reset

-- the incomplete message, if there is one
abbrev pub rest_line : List ℕ → List ℕ
rest_line [] = []
rest_line (octet ∷ octets) = codes "rest " ++ (encode_lower (octet ∷ octets) ++ 10 ∷ [])

abbrev pub hex_rules : Rules Framed
hex_rules = record {
  types = plain;
  judge = as_it_is is_err;
  line = λ _ _ _ framed. framed_line framed;
  refresh = refresh_hex;
  class = framed_class;
  last = λ _. [];
  rest = rest_line;
  answer = λ tally _. Ok tally;
}

abbrev pub Hexed : Reports
Hexed = IsReport hex_rules 0 no_tally

-- where ROUTE-REFRESH may be a message
abbrev pub HexedWith : Refreshes → Reports
HexedWith accepted = IsReport (wide_rules accepted hex_rules) 0 no_tally
