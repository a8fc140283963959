-- The result of cleaning a message.
use Rattle.std.specs.Prelude.{◌≡◌, ℕ, List, ◌++◌, Result, Ok, Err}
use Rattle.std.specs.List.{flat_map}
use Rattle.bgp_open.specs.declared.context.Context.{Context}
use Rattle.bgp_msg.specs.declared.message.Message.{Message}
use Rattle.bgp_msg.specs.Prelude.{canonical}
use Rattle.bgp_clean.specs.declared.cleaned.Cleaned.{Cleaned}
use Rattle.bgp_clean.specs.declared.cleaned.Cleaned.TheVariants.{HandedOn, Ends}
use Rattle.bgp_clean.specs.declared.fault.CleanFault.{CleanFault}

-- the octets of these messages
abbrev pub octets_handed : Context → List Message → List ℕ
octets_handed ctx ns = flat_map (canonical ctx) ns

-- what is passed on is appended to what was there; where the stream ends, nothing is added
abbrev pub IsCleaned : Context → Result (List Message) CleanFault → List ℕ → List ℕ → Cleaned → Type 0
IsCleaned ctx (Ok ns) old new HandedOn = new ≡ old ++ octets_handed ctx ns
IsCleaned ctx (Ok ns) old new (Ends g) = ⊥
IsCleaned ctx (Err f) old new HandedOn = ⊥
IsCleaned ctx (Err f) old new (Ends g) = (g ≡ f) × (new ≡ old)
