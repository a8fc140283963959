-- The octets of UPDATEs that are passed on.
use Rattle.std.specs.Prelude.{ℕ, List, map}
use Rattle.bgp_open.specs.declared.context.Context.{Context}
use Rattle.bgp_update.specs.declared.update.Update.{Update}
use Rattle.bgp_msg.specs.declared.message.Message.{Message}
use Rattle.bgp_clean.specs.Cleaned.{octets_handed}

abbrev pub updates_octets : Context → List Update → List ℕ
updates_octets ctx us = octets_handed ctx (map Message.Update us)
