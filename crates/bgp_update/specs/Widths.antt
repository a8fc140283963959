-- Sessions that differ only in the width of their AS numbers (RFC 6793).
use Rattle.std.specs.Prelude.{Bool}
use Rattle.bgp_open.specs.declared.context.Context.{Context}

-- the same session, with AS numbers of four octets or of two
abbrev pub with_as4 : Bool → Context → Context
with_as4 as4 ctx = record ctx { as4 = as4 }
