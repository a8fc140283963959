-- Pieces of six, seven, eight and twenty octets in a row: the text of the first one, and that of the rest.
use Rattle.bgp_text.proofs.Prelude.{ap, append_assoc, sym, ◌∙◌, ◌≡◌, ◌<◌, ◌≤◌, ◌-◌, ◌+◌, ◌*◌, ℕ, List, [], ◌∷◌, ◌++◌, length, length-drop, take, drop, codes, refl, arith, take_all}
use Rattle.std.specs.Prelude.{slice_index}
use Rattle.std.specs.Int.{w16, from_be_bytes}
use Rattle.bgp_text.specs.AttributeValues.{extended6_row, extended6_text, extended_row, extended_text}
use Rattle.bgp_text.specs.CapabilityValues.{further, family_text, hop_text, hops_text, stale_text}
use Rattle.bgp_text.specs.FieldValues.{numbered}

-- two texts and then a third one
pub two : (old mid new first second rest whole : List ℕ) → mid ≡ old ++ first → new ≡ mid ++ second → whole ≡ first ++ (second ++ rest)
    → new ++ rest ≡ old ++ whole
two old mid new first second rest whole wrote then all =
    ap (λ w. w ++ rest) then ∙ append_assoc mid second rest ∙ ap (λ w. w ++ (second ++ rest)) wrote ∙ append_assoc old first (second ++ rest)
    ∙ ap (λ w. old ++ w) (sym all)

-- and three
pub three : (old mid later new first second third rest whole : List ℕ) → mid ≡ old ++ first → later ≡ mid ++ second → new ≡ later ++ third
    → whole ≡ first ++ (second ++ (third ++ rest)) → new ++ rest ≡ old ++ whole
three old mid later new first second third rest whole wrote then last all =
    two mid later new second third rest (second ++ (third ++ rest)) then last refl ∙ ap (λ w. w ++ (second ++ (third ++ rest))) wrote
    ∙ append_assoc old first (second ++ (third ++ rest)) ∙ ap (λ w. old ++ w) (sym all)

pub first_hop : (o : List ℕ) (afi hop : ℕ) → 6 ≤ length o → afi ≡ from_be_bytes w16 (slice_index o 0 ∷ slice_index o 1 ∷ [])
    → hop ≡ from_be_bytes w16 (slice_index o 4 ∷ slice_index o 5 ∷ [])
    → hops_text o
    ≡ hop_text afi (slice_index o 3) hop
    ++ (further (take (length o - 6) (drop 6 o)) ++ hops_text (take (length o - 6) (drop 6 o)))
first_hop (a ∷ b ∷ c ∷ s ∷ h ∷ i ∷ rest) afi hop enough e f =
    rw (e, f, take_all (length (a ∷ b ∷ c ∷ s ∷ h ∷ i ∷ rest) - 6) rest (omega arith)) refl
first_hop [] afi hop enough e f = absurd (omega arith)
first_hop (a ∷ []) afi hop enough e f = absurd (omega arith)
first_hop (a ∷ b ∷ []) afi hop enough e f = absurd (omega arith)
first_hop (a ∷ b ∷ c ∷ []) afi hop enough e f = absurd (omega arith)
first_hop (a ∷ b ∷ c ∷ s ∷ []) afi hop enough e f = absurd (omega arith)
first_hop (a ∷ b ∷ c ∷ s ∷ h ∷ []) afi hop enough e f = absurd (omega arith)

pub first_stale : (o : List ℕ) (afi time : ℕ) → 7 ≤ length o → afi ≡ from_be_bytes w16 (slice_index o 0 ∷ slice_index o 1 ∷ [])
    → time ≡ slice_index o 4 * 65536 + slice_index o 5 * 256 + slice_index o 6
    → stale_text o
    ≡ family_text afi (slice_index o 2)
    ++ (numbered (codes "seconds") time
    ++ (further (take (length o - 7) (drop 7 o)) ++ stale_text (take (length o - 7) (drop 7 o))))
first_stale (a ∷ b ∷ s ∷ f ∷ t ∷ u ∷ v ∷ rest) afi time enough e g =
    rw (e, g, take_all (length (a ∷ b ∷ s ∷ f ∷ t ∷ u ∷ v ∷ rest) - 7) rest (omega arith)) refl
first_stale [] afi time enough e g = absurd (omega arith)
first_stale (a ∷ []) afi time enough e g = absurd (omega arith)
first_stale (a ∷ b ∷ []) afi time enough e g = absurd (omega arith)
first_stale (a ∷ b ∷ s ∷ []) afi time enough e g = absurd (omega arith)
first_stale (a ∷ b ∷ s ∷ f ∷ []) afi time enough e g = absurd (omega arith)
first_stale (a ∷ b ∷ s ∷ f ∷ t ∷ []) afi time enough e g = absurd (omega arith)
first_stale (a ∷ b ∷ s ∷ f ∷ t ∷ u ∷ []) afi time enough e g = absurd (omega arith)

pub first_extended : (o : List ℕ) → 8 ≤ length o
    → extended_row o
    ≡ extended_text (slice_index o 0) (slice_index o 1)
    (slice_index o 2 ∷ slice_index o 3 ∷ slice_index o 4 ∷ slice_index o 5 ∷ slice_index o 6 ∷ slice_index o 7 ∷ [])
    ++ (further (take (length o - 8) (drop 8 o)) ++ extended_row (take (length o - 8) (drop 8 o)))
first_extended (t ∷ s ∷ a ∷ b ∷ c ∷ d ∷ e ∷ f ∷ rest) enough =
    rw (take_all (length (t ∷ s ∷ a ∷ b ∷ c ∷ d ∷ e ∷ f ∷ rest) - 8) rest (omega arith)) refl
first_extended [] enough = absurd (omega arith)
first_extended (t ∷ []) enough = absurd (omega arith)
first_extended (t ∷ s ∷ []) enough = absurd (omega arith)
first_extended (t ∷ s ∷ a ∷ []) enough = absurd (omega arith)
first_extended (t ∷ s ∷ a ∷ b ∷ []) enough = absurd (omega arith)
first_extended (t ∷ s ∷ a ∷ b ∷ c ∷ []) enough = absurd (omega arith)
first_extended (t ∷ s ∷ a ∷ b ∷ c ∷ d ∷ []) enough = absurd (omega arith)
first_extended (t ∷ s ∷ a ∷ b ∷ c ∷ d ∷ e ∷ []) enough = absurd (omega arith)

pub first_extended6 : (o : List ℕ) (number : ℕ) → 20 ≤ length o → number ≡ from_be_bytes w16 (slice_index o 18 ∷ slice_index o 19 ∷ [])
    → extended6_row o
    ≡ extended6_text (slice_index o 0) (slice_index o 1)
    (slice_index o 2 ∷ slice_index o 3 ∷ slice_index o 4 ∷ slice_index o 5 ∷ slice_index o 6 ∷ slice_index o 7 ∷ slice_index o 8 ∷ slice_index o 9
    ∷ slice_index o 10 ∷ slice_index o 11 ∷ slice_index o 12 ∷ slice_index o 13 ∷ slice_index o 14 ∷ slice_index o 15 ∷ slice_index o 16 ∷ slice_index o 17 ∷ [])
    number
    ++ (further (take (length o - 20) (drop 20 o)) ++ extended6_row (take (length o - 20) (drop 20 o)))
first_extended6 (t ∷ s ∷ a ∷ b ∷ c ∷ d ∷ e ∷ f ∷ g ∷ h ∷ i ∷ j ∷ k ∷ l ∷ m ∷ n ∷ o ∷ p ∷ y ∷ z ∷ rest) number enough same =
    rw (same, take_all (length (t ∷ s ∷ a ∷ b ∷ c ∷ d ∷ e ∷ f ∷ g ∷ h ∷ i ∷ j ∷ k ∷ l ∷ m ∷ n ∷ o ∷ p ∷ y ∷ z ∷ rest) - 20) rest (omega arith)) refl
first_extended6 [] number enough same = absurd (omega arith)
first_extended6 (t ∷ []) number enough same = absurd (omega arith)
first_extended6 (t ∷ s ∷ []) number enough same = absurd (omega arith)
first_extended6 (t ∷ s ∷ a ∷ []) number enough same = absurd (omega arith)
first_extended6 (t ∷ s ∷ a ∷ b ∷ []) number enough same = absurd (omega arith)
first_extended6 (t ∷ s ∷ a ∷ b ∷ c ∷ []) number enough same = absurd (omega arith)
first_extended6 (t ∷ s ∷ a ∷ b ∷ c ∷ d ∷ []) number enough same = absurd (omega arith)
first_extended6 (t ∷ s ∷ a ∷ b ∷ c ∷ d ∷ e ∷ []) number enough same = absurd (omega arith)
first_extended6 (t ∷ s ∷ a ∷ b ∷ c ∷ d ∷ e ∷ f ∷ []) number enough same = absurd (omega arith)
first_extended6 (t ∷ s ∷ a ∷ b ∷ c ∷ d ∷ e ∷ f ∷ g ∷ []) number enough same = absurd (omega arith)
first_extended6 (t ∷ s ∷ a ∷ b ∷ c ∷ d ∷ e ∷ f ∷ g ∷ h ∷ []) number enough same = absurd (omega arith)
first_extended6 (t ∷ s ∷ a ∷ b ∷ c ∷ d ∷ e ∷ f ∷ g ∷ h ∷ i ∷ []) number enough same = absurd (omega arith)
first_extended6 (t ∷ s ∷ a ∷ b ∷ c ∷ d ∷ e ∷ f ∷ g ∷ h ∷ i ∷ j ∷ []) number enough same = absurd (omega arith)
first_extended6 (t ∷ s ∷ a ∷ b ∷ c ∷ d ∷ e ∷ f ∷ g ∷ h ∷ i ∷ j ∷ k ∷ []) number enough same = absurd (omega arith)
first_extended6 (t ∷ s ∷ a ∷ b ∷ c ∷ d ∷ e ∷ f ∷ g ∷ h ∷ i ∷ j ∷ k ∷ l ∷ []) number enough same = absurd (omega arith)
first_extended6 (t ∷ s ∷ a ∷ b ∷ c ∷ d ∷ e ∷ f ∷ g ∷ h ∷ i ∷ j ∷ k ∷ l ∷ m ∷ []) number enough same = absurd (omega arith)
first_extended6 (t ∷ s ∷ a ∷ b ∷ c ∷ d ∷ e ∷ f ∷ g ∷ h ∷ i ∷ j ∷ k ∷ l ∷ m ∷ n ∷ []) number enough same = absurd (omega arith)
first_extended6 (t ∷ s ∷ a ∷ b ∷ c ∷ d ∷ e ∷ f ∷ g ∷ h ∷ i ∷ j ∷ k ∷ l ∷ m ∷ n ∷ o ∷ []) number enough same = absurd (omega arith)
first_extended6 (t ∷ s ∷ a ∷ b ∷ c ∷ d ∷ e ∷ f ∷ g ∷ h ∷ i ∷ j ∷ k ∷ l ∷ m ∷ n ∷ o ∷ p ∷ []) number enough same = absurd (omega arith)
first_extended6 (t ∷ s ∷ a ∷ b ∷ c ∷ d ∷ e ∷ f ∷ g ∷ h ∷ i ∷ j ∷ k ∷ l ∷ m ∷ n ∷ o ∷ p ∷ y ∷ []) number enough same = absurd (omega arith)

-- what follows a piece is shorter than the whole
pub fewer : (n : ℕ) (o : List ℕ) → 0 < n → n ≤ length o → length (take (length o - n) (drop n o)) < length o
fewer n o some enough =
    let whole : take (length o - n) (drop n o) ≡ drop n o = take_all (length o - n) (drop n o) (omega (arith, length-drop n o)) in
    rw (whole, length-drop n o) (omega arith)
