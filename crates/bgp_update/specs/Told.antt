-- An UPDATE of a 4-octet-AS session, before it is sent to a 2-octet-AS peer (RFC 6793, section 4.2.2).
use Rattle.std.specs.Prelude.{◌≡◌, true, false, None}
use Rattle.bgp_open.specs.declared.context.Context.{Context}
use Rattle.bgp_update.specs.declared.update.Update.{Update}
use Rattle.bgp_update.specs.Written.{invalid_of, is_too_long}

-- it can be written in its session, as each one accepted there can
pub record CanBeTold (ctx : Context) (u : Update) : Type 0 where
  pub wide : ctx.as4 ≡ true
  pub valid : invalid_of ctx u ≡ None
  pub short : is_too_long ctx u ≡ false
