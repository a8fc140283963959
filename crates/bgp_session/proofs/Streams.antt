-- One more octet of a sequence of messages: it completes the first message, or what is held is still incomplete.
use Rattle.bgp_session.proofs.Prelude.{◌≡◌, ℕ, ◌+◌, ◌≤◌, ◌⊎◌, List, [], ◌∷◌, ◌++◌, length, take, drop, sym, ap, ◌∙◌, append_assoc, arith, inl, inr}
use Rattle.bgp_session.proofs.Prelude.{take-append_seam, drop-append_seam, cases_lt, append-nil, length-append, Message, IsFrame, wanted, Waits}
use Rattle.bgp_session.proofs.Prelude.{length-IsFrame, IsFrame-wanted, wanted_under, wanted-append}
use Rattle.bgp_frame.specs.Kind.{plain}
use Rattle.bgp_frame.specs.steps.AreTypes.{plain-are}

-- prefixes of equal length are equal
same_front : (a b x y : List ℕ) → a ++ x ≡ b ++ y → length a ≡ length b → (a ≡ b) × (x ≡ y)
same_front a b x y same long = (
  sym (take-append_seam a x) ∙ ap (λ (l : List ℕ). take (length a) l) same ∙ ap (λ (n : ℕ). take n (b ++ y)) long ∙ take-append_seam b y,
  sym (drop-append_seam a x) ∙ ap (λ (l : List ℕ). drop (length a) l) same ∙ ap (λ (n : ℕ). drop n (b ++ y)) long ∙ drop-append_seam b y,
)

-- at least a header of a frame's octets: the number wanted is the frame's length
wanted_of : (m : Message) (a x b y : List ℕ) → IsFrame m b → a ++ x ≡ b ++ y → 19 ≤ length a → wanted a ≡ length b
wanted_of m a x b y frame same long =
    let least = length-IsFrame plain plain-are m b frame in
    sym (wanted-append plain plain-are a x long) ∙ ap wanted same ∙ wanted-append plain plain-are b y (omega arith) ∙ IsFrame-wanted plain plain-are m b frame

module _ (m : Message) (held : List ℕ) (octet : ℕ) (rest b later : List ℕ) (waits : Waits held) (frame : IsFrame m b) (same : held ++ octet ∷ rest ≡ b ++ later) where
  abbrev more : List ℕ
  more = held ++ octet ∷ []

  regrouped : more ++ rest ≡ b ++ later
  regrouped = append_assoc held (octet ∷ []) rest ∙ same

  -- no more is held than the frame's length
  within : length more ≤ length b
  within =
      let least = length-IsFrame plain plain-are m b frame in
      let count : length more ≡ length held + 1 = length-append held (octet ∷ []) in
      elim (cases_lt (length held) 19) [
        | inl short ↦ omega arith
        | inr long ↦ let wants = wanted_of m held (octet ∷ rest) b later frame same long in omega arith
      ]

  abbrev Ends : Type 0
  Ends = (more ≡ b) × (rest ≡ later)

  pub waits_or_ends : Waits more ⊎ Ends
  waits_or_ends =
      let most = within in
      elim (cases_lt (length more) 19) [
        | inl short ↦ let wants = wanted_under plain plain-are more short in inl (omega arith)
        | inr long ↦
            let wants = wanted_of m more rest b later frame regrouped long in
            elim (cases_lt (length more) (length b)) [
              | inl less ↦ inl (omega arith)
              | inr all ↦ inr (same_front more b rest later regrouped (omega arith))
            ]
      ]

-- an incomplete message doesn't begin with a whole frame
pub no_frame : (m : Message) (held b later : List ℕ) → Waits held → IsFrame m b → held ≡ b ++ later → ⊥
no_frame m held b later waits frame same =
    let least = length-IsFrame plain plain-are m b frame in
    let count : length held ≡ length b + length later = ap length same ∙ length-append b later in
    let wants = wanted_of m held [] b later frame (append-nil held ∙ same) (omega arith) in
    omega arith
