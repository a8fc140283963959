-- The settings of a speaker, and which are refused.
use Rattle.std.specs.Prelude.{◌≡◌, ℕ, Bool, not, ◌&&◌, ◌==◌, List, Option, None, Some, Result, Ok, Err, if◌then◌else◌}
use Rattle.bgp_open.specs.declared.config.BadConfig.{BadConfig}
use Rattle.bgp_open.specs.declared.config.BadConfig.TheVariants.{LocalAs, PeerAs, Identifier, Hold, AsWidth}
use Rattle.bgp_open.specs.Open.{is_short_hold, is_wide, is_zero_id}

pub record Settings : Type 0 where
  pub local_as : ℕ
  pub peer_as : ℕ
  pub id : List ℕ
  pub hold : ℕ
  pub as4 : Bool
  pub ip4 : Bool
  pub ip6 : Bool

-- the first reason to refuse
abbrev pub refusal_of : Settings → Option BadConfig
refusal_of s =
    if s.local_as == 0 then Some LocalAs else (
    if s.peer_as == 0 then Some PeerAs else (
    if is_zero_id s.id then Some Identifier else (
    if is_short_hold s.hold then Some Hold else (
    if is_wide s.local_as && not s.as4 then Some AsWidth else
    None))))

abbrev pub IsAllowed : Settings → Type 0
IsAllowed s = refusal_of s ≡ None

abbrev pub unless_refused : Option BadConfig → Settings → Result Settings BadConfig
unless_refused None s = Ok s
unless_refused (Some bad) s = Err bad

abbrev pub config_of : Settings → Result Settings BadConfig
config_of s = unless_refused (refusal_of s) s
