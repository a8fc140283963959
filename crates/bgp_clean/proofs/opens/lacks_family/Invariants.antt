use Rattle.bgp_clean.proofs.Prelude.{◌≡◌, ◌||◌, length, list_any, IPV4, IPV6, capabilities_left, open_value, is_unicast, is_multi}
use Rattle.bgp_clean.proofs.opens.lacks_family.Given as goal

-- those so far and those that remain are all
abbrev pub invariant-row : goal.invariant-row
invariant-row l =
    (list_any is_multi (open_value l.view).caps ≡ (l.offers || list_any is_multi (capabilities_left l.left)))
    × ((list_any (is_unicast IPV4) (open_value l.view).caps || list_any (is_unicast IPV6) (open_value l.view).caps)
    ≡ (l.in_use || (list_any (is_unicast IPV4) (capabilities_left l.left) || list_any (is_unicast IPV6) (capabilities_left l.left))))

abbrev pub decreases-row : goal.decreases-row
decreases-row l = length (capabilities_left l.left)
