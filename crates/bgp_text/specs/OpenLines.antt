-- The details of an OPEN.
use Rattle.std.specs.Prelude.{ℕ, List, [], ◌∷◌, ◌++◌, codes}
use Rattle.bgp_text.specs.Below.{flat_map, decimal, ipv4_address_text, Capability, Multi, As4, Other, Open}
use Rattle.bgp_text.specs.Info.{info_text}

-- My Autonomous System as in the OPEN, the hold time, and the identifier
abbrev pub number_lines : ℕ → ℕ → List ℕ → List ℕ
number_lines as_field hold id =
    codes "  as " ++ (decimal as_field ++ 10 ∷ (codes "  hold " ++ (decimal hold ++ 10 ∷ (codes "  id " ++ (ipv4_address_text id ++ 10 ∷ [])))))

abbrev pub other_line : ℕ → List ℕ → List ℕ
other_line code value = codes "  cap " ++ (decimal code ++ (codes " " ++ (info_text value ++ 10 ∷ [])))

abbrev pub capability_line : Capability → List ℕ
capability_line (Multi family subsequent) = codes "  cap multi " ++ (decimal family ++ (codes " " ++ (decimal subsequent ++ 10 ∷ [])))
capability_line (As4 number) = codes "  cap as4 " ++ (decimal number ++ 10 ∷ [])
capability_line (Other code value) = other_line code value

abbrev pub open_lines : Open → List ℕ
open_lines o = number_lines o.as_field o.hold o.id ++ flat_map capability_line o.caps
