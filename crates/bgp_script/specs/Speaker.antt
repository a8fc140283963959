-- The line of a speaker: its side, and its settings.
use Rattle.std.specs.Prelude.{ℕ, List, Option, codes}
use Rattle.std.specs.Result.{result_ok}
use Rattle.bgp_open.specs.Prelude.{Settings, config_of}
use Rattle.bgp_script.specs.declared.speaker.Flags.{Flags}
use Rattle.bgp_wire.specs.Prelude.{◌>>=◌}
use Rattle.bgp_script.specs.Pieces.{behind, one_flag, if_done}
use Rattle.bgp_script.specs.Number.{number_behind, address_behind}

-- which of `as4`, `ip4` and `ip6` are there, in this order and nothing else
abbrev pub flags_of : List (List ℕ) → Option Flags
flags_of words =
    let as4 = one_flag (codes "as4") words in
    let ip4 = one_flag (codes "ip4") as4.1 in
    let ip6 = one_flag (codes "ip6") ip4.1 in
    if_done ip6.1 (record { as4 = as4.0; ip4 = ip4.0; ip6 = ip6.0 })

-- `as N peer N id D.D.D.D hold N` and flags, if these settings are allowed
unfoldable pub settings_of : List (List ℕ) → Option Settings
settings_of words = do
  local ← number_behind (codes "as") 4294967295 words
  peer ← number_behind (codes "peer") 4294967295 local.1
  id ← address_behind (codes "id") peer.1
  hold ← number_behind (codes "hold") 65535 id.1
  flags ← flags_of hold.1
  result_ok (config_of (record { local_as = local.0; peer_as = peer.0; id = id.0; hold = hold.0; as4 = flags.as4; ip4 = flags.ip4; ip6 = flags.ip6 }))

-- the settings after the name of a side
abbrev pub speaker_of : List ℕ → List (List ℕ) → Option Settings
speaker_of side words = do
  later ← behind side words
  settings_of later
