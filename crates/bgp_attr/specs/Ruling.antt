-- How an attribute is judged, apart from its value.
use Rattle.std.specs.Prelude.{ℕ, Bool, true, false, ◌==◌, List, [], if◌then◌else◌}
use Rattle.bgp_numbers.specs.declared.error.TheConstants.{UPDATE_MESSAGE, MALFORMED_ATTRIBUTE_LIST}
use Rattle.bgp_frame.specs.declared.notification.Notification.{Notification}
use Rattle.bgp_attr.specs.declared.attr.Attr.{Attr}
use Rattle.bgp_attr.specs.declared.judged.Judged.{Judged}
use Rattle.bgp_attr.specs.declared.judged.Judged.TheVariants as judged
use Rattle.bgp_attr.specs.declared.ruling.Ruling.{Ruling}
use Rattle.bgp_attr.specs.declared.ruling.Ruling.TheVariants as ruling

-- a reset of code 3 by an attribute of these octets: a malformed list has no data
abbrev pub attribute_reset : ℕ → List ℕ → Notification
attribute_reset subcode whole =
    record { code = UPDATE_MESSAGE; subcode = subcode; info = record { items = if subcode == MALFORMED_ATTRIBUTE_LIST then [] else whole } }

-- the judgement of an attribute that has these octets and this value
abbrev pub ruled : Ruling → List ℕ → Attr → Judged
ruled ruling.Keep whole a = judged.Keep a
ruled (ruling.Discard w) whole a = judged.Discard w
ruled (ruling.Withdraw w) whole a = judged.Withdraw w
ruled (ruling.Reset subcode) whole a = judged.Reset (attribute_reset subcode whole)

-- the attribute is kept
abbrev pub keeps : Ruling → Bool
keeps ruling.Keep = true
keeps _ = false
