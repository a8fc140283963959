-- What a session agreed on, in C's form.
use Rattle.std.specs.Prelude.{ℕ, Bool, not, ◌==◌}
use Rattle.bgp_open.specs.declared.context.Context.{Context}
use Rattle.ristulva_c.specs.declared.context.SessionContext.{SessionContext}

abbrev pub is_set : ℕ → Bool
is_set n = not (n == 0)

-- the context of a session: no verdict depends on its Hold Time
abbrev pub context_of : SessionContext → Context
context_of said = record { internal = is_set said.internal; as4 = is_set said.as4; ip4 = is_set said.ip4; ip6 = is_set said.ip6; hold = 0 }
