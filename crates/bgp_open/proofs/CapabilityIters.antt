-- One step of an iterator over capabilities.
use Rattle.bgp_wire.proofs.Std.{◌≡◌, ℕ, ◌<◌, List, [], ◌∷◌, ◌++◌, length, Some, None, refl, ap, ◌∙◌, flat_map, flat_map-cons}
use Rattle.std.proofs.lemmas.List.{append-nil}
use Rattle.bgp_wire.specs.Prelude.{pieces}
use Rattle.bgp_wire.proofs.Walks.{shorter, first_then, no_more}
use Rattle.bgp_open.specs.declared.capability.Capability.{Capability}
use Rattle.bgp_open.specs.Prelude.{IsCapability, one_capability, capabilities_of, IsParameter, one_parameter}
use Rattle.bgp_open.proofs.Capabilities.{capability-reads}
use Rattle.bgp_open.proofs.Parameters.{parameter-reads}

-- no parameter has been begun: what is left are the capabilities of all parameters
pub none_begun : (later : List Capability) → (pieces one_capability []).0 ++ later ≡ later
unfolding pieces
none_begun later = refl

-- one more capability of the parameter that was begun
pub goes_on : (begun rest : List ℕ) (c : Capability) (later : List Capability) → Some (c, rest) ≡ one_capability begun
    → (pieces one_capability begun).0 ++ later ≡ c ∷ ((pieces one_capability rest).0 ++ later)
goes_on begun rest c later e = ap (λ (xs : List Capability). xs ++ later) (first_then Capability IsCapability one_capability capability-reads begun c rest e)

-- the parameter that was begun has no more
pub is_over : (begun : List ℕ) (later : List Capability) → None ≡ one_capability begun → (pieces one_capability begun).0 ++ later ≡ later
is_over begun later e = ap (λ (xs : List Capability). xs ++ later) (no_more Capability IsCapability one_capability capability-reads begun e)

-- the capabilities of the next parameter, and of those after it
pub begins : (later after : List ℕ) (caps : List Capability) → Some (caps, after) ≡ one_parameter later → capabilities_of later ≡ caps ++ capabilities_of after
begins later after caps e = ap (λ (xs : List (List Capability)). flat_map (λ cs. cs) xs) (first_then (List Capability) IsParameter one_parameter parameter-reads later caps after e) ∙ flat_map-cons (λ cs. cs) caps (pieces one_parameter after).0

pub ends : (later : List ℕ) → None ≡ one_parameter later → capabilities_of later ≡ []
ends later e = ap (λ (xs : List (List Capability)). flat_map (λ cs. cs) xs) (no_more (List Capability) IsParameter one_parameter parameter-reads later e)

pub smaller : (later after : List ℕ) (caps : List Capability) → Some (caps, after) ≡ one_parameter later → length after < length later
smaller later after caps e = shorter (List Capability) IsParameter one_parameter parameter-reads later caps after e

-- no parameter follows the one that was begun
pub nothing_later : (begun : List Capability) → begun ++ capabilities_of [] ≡ begun
unfolding pieces
nothing_later begun = append-nil begun
