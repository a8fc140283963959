-- A cleaned stream: what is passed on of each message, up to the first of which nothing is.
use Rattle.std.specs.Prelude.{ℕ, Bool, true, false, List, [], ◌∷◌, ◌++◌, Result, Ok, Err}
use Rattle.bgp_frame.specs.Frame as frame
use Rattle.bgp_open.specs.declared.context.Context.{Context}
use Rattle.bgp_update.specs.declared.update.Update.{Update}
use Rattle.bgp_msg.specs.declared.message.Message.{Message}
use Rattle.bgp_clean.specs.declared.fault.CleanFault.{CleanFault}
use Rattle.bgp_clean.specs.Clean.{cleaned}
use Rattle.bgp_clean.specs.Cleaned.{octets_handed}

-- what is passed on of one message, and of each of those after it
abbrev pub handed_then : Result (List Message) CleanFault → List (List Message) → List (List Message)
handed_then (Ok ns) later = ns ∷ later
handed_then (Err f) later = []

abbrev pub cleaned_from : Context → (ℕ → Bool) → (Update → Bool) → Bool → List frame.Message → List (List Message)
cleaned_from ctx drops refuses first [] = []
cleaned_from ctx drops refuses first (m ∷ later) = handed_then (cleaned ctx drops refuses first m) (cleaned_from ctx drops refuses false later)

-- of each message of a stream, from its first one on
abbrev pub cleaned_each : Context → (ℕ → Bool) → (Update → Bool) → List frame.Message → List (List Message)
cleaned_each ctx drops refuses messages = cleaned_from ctx drops refuses true messages

-- all of them, in order
abbrev pub joined_messages : List (List Message) → List Message
joined_messages [] = []
joined_messages (ns ∷ later) = ns ++ joined_messages later

abbrev pub cleaned_stream : Context → (ℕ → Bool) → (Update → Bool) → List frame.Message → List Message
cleaned_stream ctx drops refuses messages = joined_messages (cleaned_each ctx drops refuses messages)

-- its octets
abbrev pub cleaned_octets : Context → (ℕ → Bool) → (Update → Bool) → List frame.Message → List ℕ
cleaned_octets ctx drops refuses messages = octets_handed ctx (cleaned_stream ctx drops refuses messages)
