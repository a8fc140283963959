-- A speaker's own OPEN is spelled by its written form, and its capabilities are read from their row.
use Rattle.bgp_wire.proofs.Std.{◌≡◌, List, ap, ◌∙◌, ℕ, ◌<◌, ◌^◌, Bool, true, false, cond, ◌++◌, length, refl, arith, list_any, AllByRecursion, ltb-false}
use Rattle.bgp_wire.specs.Prelude.{Row, pieces}
use Rattle.bgp_wire.proofs.Behinds.{pieces-whole}
use Rattle.bgp_numbers.specs.declared.TheConstants.{AS_TRANS}
use Rattle.bgp_numbers.specs.declared.afi.TheConstants.{IPV4, IPV6}
use Rattle.bgp_numbers.specs.declared.safi.TheConstants.{UNICAST}
use Rattle.bgp_open.specs.declared.capability.Capability.{Capability}
use Rattle.bgp_open.specs.declared.capability.Capability.TheVariants.{Multi, As4}
use Rattle.bgp_open.specs.Prelude.{IsCapability, one_capability, is_wide, IsOpen, Settings, IsAllowed, offered, own_caps, own_of, row_octets, canonical, is_misnamed, HasRange}
use Rattle.bgp_open.proofs.Capabilities.{capability-reads}
use Rattle.bgp_open.proofs.Configs.{allowed-id, allowed-hold}
use Rattle.bgp_open.proofs.Spellings.{canonical-spells, ranges-spell}

unicast-fits : (family : ℕ) → family < 2 ^ 16 → HasRange (Multi family UNICAST)
unicast-fits family small = (small, omega arith)

caps-fit : (p q r : Bool) (n : ℕ) → n < 2 ^ 32 → AllByRecursion HasRange (offered p (Multi IPV4 UNICAST) ++ (offered q (Multi IPV6 UNICAST) ++ offered r (As4 n)))
caps-fit false false false n small = tt
caps-fit false false true n small = (small, tt)
caps-fit false true false n small = (unicast-fits IPV6 (omega arith), tt)
caps-fit false true true n small = (unicast-fits IPV6 (omega arith), (small, tt))
caps-fit true false false n small = (unicast-fits IPV4 (omega arith), tt)
caps-fit true false true n small = (unicast-fits IPV4 (omega arith), (small, tt))
caps-fit true true false n small = (unicast-fits IPV4 (omega arith), (unicast-fits IPV6 (omega arith), tt))
caps-fit true true true n small = (unicast-fits IPV4 (omega arith), (unicast-fits IPV6 (omega arith), (small, tt)))

caps-named : (p q r : Bool) (n : ℕ) → list_any is_misnamed (offered p (Multi IPV4 UNICAST) ++ (offered q (Multi IPV6 UNICAST) ++ offered r (As4 n))) ≡ false
caps-named false false false n = refl
caps-named false false true n = refl
caps-named false true false n = refl
caps-named false true true n = refl
caps-named true false false n = refl
caps-named true false true n = refl
caps-named true true false n = refl
caps-named true true true n = refl

field-fits : (wide : Bool) (n : ℕ) → is_wide n ≡ wide → cond wide AS_TRANS n < 2 ^ 16
field-fits true n e = omega arith
field-fits false n e = omega (arith, ltb-false 65535 n e)

own-row : (s : Settings) → s.local_as < 2 ^ 32 → Row IsCapability (own_caps s) (row_octets (own_caps s))
own-row s small = ranges-spell (own_caps s) (caps-fit s.ip4 s.ip6 s.as4 s.local_as small) (caps-named s.ip4 s.ip6 s.as4 s.local_as)

-- the capabilities offered are read from their row
pub own-read : (s : Settings) (caps : List Capability) (row : List ℕ) → s.local_as < 2 ^ 32 → row ≡ row_octets (own_caps s) → caps ≡ (pieces one_capability row).0 → caps ≡ own_caps s
own-read s caps row small is read =
    read ∙ ap (λ (b : List ℕ). (pieces one_capability b).0) is
    ∙ ap (λ (q : List Capability × List ℕ). q.0) (pieces-whole Capability IsCapability one_capability capability-reads (own_caps s) (row_octets (own_caps s)) (own-row s small))

pub own-spells : (s : Settings) → IsAllowed s → s.local_as < 2 ^ 32 → s.hold < 2 ^ 16 → length s.id ≡ 4 → IsOpen (own_of s) (canonical (own_of s))
own-spells s allowed small_as small_hold four =
    canonical-spells (own_of s) (own_caps s) (row_octets (own_caps s)) (field-fits (is_wide s.local_as) s.local_as refl) small_hold four
    (allowed-hold s allowed) (allowed-id s allowed) refl refl (own-row s small_as)
