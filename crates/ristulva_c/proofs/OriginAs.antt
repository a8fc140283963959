-- The last number of a path is that of its last segment.
use Rattle.ristulva_c.proofs.Below.{◌≡◌, ℕ, List, [], ◌∷◌, Option, Some, None, refl, AsNumber, Segment}
use Rattle.ristulva_c.specs.Prelude.{last_number, last_by, origin_in, last_behind, origin_behind}

last_more : (last : Option ℕ) (n : AsNumber) (later : List AsNumber) → last_behind last (n ∷ later) ≡ last_number (n ∷ later)
last_more last n [] = refl
last_more last n (m ∷ later) = last_more (Some n.0) m later

pub last_is : (numbers : List AsNumber) → last_behind None numbers ≡ last_number numbers
last_is [] = refl
last_is (n ∷ later) = last_more None n later

origin_more : (last : Option ℕ) (s : Segment) (later : List Segment) → origin_behind last (s ∷ later) ≡ origin_in (s ∷ later)
origin_more last s [] = refl
origin_more last s (t ∷ later) = origin_more (last_by s.kind s.numbers) t later

pub origin_is : (segments : List Segment) → origin_behind None segments ≡ origin_in segments
origin_is [] = refl
origin_is (s ∷ later) = origin_more None s later
