-- What an allowed configuration is.
use Rattle.std.proofs.Common.{◌≡◌, Bool, true, false, not, ◌&&◌, cond, eqb, Some, None, refl}
use Rattle.bgp_open.specs.declared.config.BadConfig.TheVariants.{LocalAs, PeerAs, Identifier, Hold, AsWidth}
use Rattle.bgp_open.specs.Prelude.{is_short_hold, is_wide, is_zero_id, Settings, IsAllowed}

record NoneApplies (a b c d e : Bool) : Type 0 where
  local_as : a ≡ false
  peer_as : b ≡ false
  id : c ≡ false
  hold : d ≡ false
  wide : e ≡ false

none_applies : (a b c d e : Bool) → cond a (Some LocalAs) (cond b (Some PeerAs) (cond c (Some Identifier) (cond d (Some Hold) (cond e (Some AsWidth) None)))) ≡ None → NoneApplies a b c d e
none_applies true b c d e h = absurd cc
none_applies false true c d e h = absurd cc
none_applies false false true d e h = absurd cc
none_applies false false false true e h = absurd cc
none_applies false false false false true h = absurd cc
none_applies false false false false false h = record { local_as = refl; peer_as = refl; id = refl; hold = refl; wide = refl }

reasons : (s : Settings) → IsAllowed s → NoneApplies (eqb s.local_as 0) (eqb s.peer_as 0) (is_zero_id s.id) (is_short_hold s.hold) (is_wide s.local_as && not s.as4)
reasons s allowed = none_applies (eqb s.local_as 0) (eqb s.peer_as 0) (is_zero_id s.id) (is_short_hold s.hold) (is_wide s.local_as && not s.as4) allowed

pub allowed-id : (s : Settings) → IsAllowed s → is_zero_id s.id ≡ false
allowed-id s allowed = (reasons s allowed).id

pub allowed-hold : (s : Settings) → IsAllowed s → is_short_hold s.hold ≡ false
allowed-hold s allowed = (reasons s allowed).hold

pub allowed-wide : (s : Settings) → IsAllowed s → (is_wide s.local_as && not s.as4) ≡ false
allowed-wide s allowed = (reasons s allowed).wide
