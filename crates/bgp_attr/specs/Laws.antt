-- What the laws of attributes say of a kept one.
use Rattle.std.specs.Prelude.{◌≡◌, ◌≤◌, ℕ, Bool, true, List, length}
use Rattle.bgp_open.specs.declared.context.Context.{Context}
use Rattle.bgp_attr.specs.declared.attr.Attr.{Attr}
use Rattle.bgp_attr.specs.Written.{canonical, is_writable, Belongs, HasRanges}

-- the attribute can be written where it was read, in no more octets than these
pub record CanBeWritten (ctx : Context) (has_nlri : Bool) (a : Attr) (b : List ℕ) : Type 0 where
  pub writable : is_writable ctx a ≡ true
  pub in_place : Belongs ctx has_nlri a
  pub ranges : HasRanges a
  pub no_longer : length (canonical ctx a) ≤ length b
