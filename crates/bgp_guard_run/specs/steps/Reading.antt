-- What the guard receives from a connection.
use Rattle.std.specs.Prelude.{◌≡◌, ◌⊎◌, ℕ, List, [], ◌++◌, length, drop, Option}
use Rattle.std.specs.Io.KnownBytes.{Consumes}
use Rattle.bgp_guard.specs.declared.came.Came.{Came}
use Rattle.bgp_guard.specs.declared.side.Side.{Side}
use Rattle.bgp_guard.specs.Guard.{Guarding}
use Rattle.bgp_guard.specs.Came.{IsHeard}

-- Octets were read in their order, and none where some of those read before remained. The guard received the remaining ones and then these, up to the
-- end of a message, and what it consumed remains no more
pub record IsReadAndHeard (side : Side) (old new : Guarding) (before after : Option (List ℕ)) (left rest : List ℕ) (count taken : ℕ) (came : Came) : Type 0 where
  pub read : List ℕ
  pub in_order : Consumes before after read
  pub counted : count ≡ length read
  pub once : (left ≡ []) ⊎ (read ≡ [])
  pub heard : IsHeard side old (left ++ read) taken came new
  pub kept : rest ≡ drop taken (left ++ read)
