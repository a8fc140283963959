-- Which capabilities occurred before, as the code keeps them.
use Rattle.bgp_clean.specs.declared.opens.Seen.{Seen}
use Rattle.bgp_clean.specs.Opens as opens

abbrev pub seen_value : Seen → opens.Seen
seen_value s = record { ip4 = s.ip4; ip6 = s.ip6; as4 = s.as4; refresh = s.refresh; enhanced = s.enhanced }
