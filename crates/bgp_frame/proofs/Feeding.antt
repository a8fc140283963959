-- Filling up to a header, and then up to its Length, consumes the same octets as one after another.
use Rattle.bgp_wire.proofs.Std.{◌≡◌, ℕ, zero, suc, ◌+◌, ◌-◌, ◌<◌, ◌≤◌, min, List, ◌++◌, length, take, drop, sym, ap, subst, ◌∙◌, append_assoc, arith, inl, inr, ◌⊎◌, take-add, cases_lt, take_rest}
use Rattle.std.proofs.lemmas.List.{append-nil, length-append, length-drop, length-take}
use Rattle.bgp_wire.specs.Prelude.{AreOctets}
use Rattle.bgp_wire.proofs.OctetLemmas.{AreOctets-append, AreOctets-take, AreOctets-drop}
use Rattle.bgp_frame.specs.Prelude.{AreTypes, FramerValue, IsHeldIn, StopsIn, TakesIn, Types, WaitsIn, wanted_in}
use Rattle.bgp_frame.proofs.FrameLemmas.{wanted-bounds, wanted-append, Stops-wanted, wanted-Stops}

module _ {K : Type 0} (ty : Types K) (okay : AreTypes ty) where
  -- an incomplete message that is given an octet consumes one
  pub takes_some : (held piece : List ℕ) (n : ℕ) → TakesIn ty held piece n → WaitsIn ty held → 0 < length piece → 0 < n
  takes_some held piece zero t waits some =
      elim t.all_or_stops [
        | inl all ↦ absurd (omega arith)
        | inr stops ↦ let s = Stops-wanted ty okay held (subst (StopsIn ty) (append-nil held) stops) in absurd (omega (arith, s.1))
      ]
  takes_some held piece (suc n) t waits some = omega arith

  -- the piece is cut in two: the octets up to a header, and those up to what is wanted then
  pub record Fills (held piece : List ℕ) (first second : ℕ) : Type 0 where
    pub held_is : IsHeldIn ty held
    pub octets : AreOctets piece
    pub first_is : first ≡ min (19 - length held) (length piece)
    pub second_is : second ≡ min (wanted_in ty (held ++ take first piece) - length (held ++ take first piece)) (length piece - first)

  module _ (held piece : List ℕ) (first second : ℕ) (f : Fills held piece first second) where
    abbrev headed : List ℕ
    headed = held ++ take first piece

    abbrev filled : List ℕ
    filled = headed ++ take second (drop first piece)

    length-headed : length headed ≡ length held + first
    length-headed = let is = f.first_is in omega (arith, length-append held (take first piece), length-take first piece)

    length-filled : length filled ≡ length held + first + second
    length-filled =
        let one = f.first_is in
        let two = f.second_is in
        omega (arith, length-headed, length-append headed (take second (drop first piece)), length-take second (drop first piece), length-drop first piece)

    filled_is : filled ≡ held ++ take (first + second) piece
    filled_is = append_assoc held (take first piece) (take second (drop first piece)) ∙ ap (λ (x : List ℕ). held ++ x) (sym (take-add first second piece))

    octets_filled : AreOctets filled
    octets_filled = AreOctets-append headed _ (AreOctets-append held _ f.held_is.octets (AreOctets-take first piece f.octets)) (AreOctets-take second _ (AreOctets-drop first piece f.octets))

    -- once the header is there, what is wanted stays
    wanted_more : (k : ℕ) → 19 ≤ length headed → wanted_in ty (headed ++ take k (drop first piece)) ≡ wanted_in ty headed
    wanted_more k long = wanted-append ty okay headed (take k (drop first piece)) long

    -- a header that was held before doesn't change what is wanted
    headed_within : 19 ≤ length headed → length headed ≤ wanted_in ty headed
    headed_within long =
        let bounds = wanted-bounds ty okay headed in
        let len = length-headed in
        let is = f.first_is in
        elim (cases_lt (length held) 19) [
          | inl short ↦ omega (arith, bounds.0)
          | inr there ↦ let same : wanted_in ty headed ≡ wanted_in ty held = wanted-append ty okay held (take first piece) there in let fits = f.held_is.within in omega arith
        ]

    filled_within : length filled ≤ wanted_in ty filled
    filled_within =
        let len = length-filled in
        let head_len = length-headed in
        let one = f.first_is in
        let two = f.second_is in
        elim (cases_lt (length filled) 19) [
          | inl short ↦ let bounds = wanted-bounds ty okay filled in omega (arith, bounds.0)
          | inr long ↦ elim (cases_lt (length headed) 19) [
            | inl short ↦ let bounds = wanted-bounds ty okay filled in omega (arith, bounds.0)
            | inr there ↦ let same = wanted_more second there in let fits = headed_within there in omega arith
          ]
        ]

    pub Fills-held : IsHeldIn ty filled
    Fills-held = record { octets = octets_filled; within = filled_within }

    split_at : (k : ℕ) → first ≤ k → held ++ take k piece ≡ headed ++ take (k - first) (drop first piece)
    split_at k le =
        let e : k ≡ first + (k - first) = omega arith in
        ap (λ (n : ℕ). held ++ take n piece) e ∙ ap (λ (x : List ℕ). held ++ x) (take-add first (k - first) piece) ∙ sym (append_assoc held (take first piece) (take (k - first) (drop first piece)))

    too_soon : (k : ℕ) → k < first + second → StopsIn ty (held ++ take k piece) → ⊥
    too_soon k lt stops =
        let s = Stops-wanted ty okay (held ++ take k piece) stops in
        let len = length-append held (take k piece) in
        let took = length-take k piece in
        let head_len = length-headed in
        let one = f.first_is in
        let two = f.second_is in
        let past : first ≤ k = omega (arith, s.0) in
        elim (cases_lt (length headed) 19) [
          | inl short ↦ omega (arith, s.0)
          | inr long ↦
              let same : wanted_in ty (held ++ take k piece) ≡ wanted_in ty headed = ap (wanted_in ty) (split_at k past) ∙ wanted_more (k - first) long in
              omega (arith, s.1)
        ]

    all_or_stops : (first + second ≡ length piece) ⊎ StopsIn ty (held ++ take (first + second) piece)
    all_or_stops =
        let len = length-filled in
        let head_len = length-headed in
        let one = f.first_is in
        let two = f.second_is in
        elim (cases_lt (first + second) (length piece)) [
          | inl less ↦
              let long : 19 ≤ length headed = omega arith in
              let same = wanted_more second long in
              let fits = headed_within long in
              inr (subst (StopsIn ty) filled_is (wanted-Stops ty okay filled octets_filled (omega arith) (omega arith)))
          | inr all ↦ inl (omega arith)
        ]

    pub Fills-takes : TakesIn ty held piece (first + second)
    Fills-takes = record {
      within = let one = f.first_is in let two = f.second_is in omega arith;
      no_sooner = too_soon;
      all_or_stops = all_or_stops;
    }

  -- the octets after the two fillings, and the number that was consumed
  pub record Fed (old piece new : List ℕ) (n : ℕ) : Type 0 where
    pub takes : TakesIn ty old piece n
    pub appends : new ≡ old ++ take n piece
    pub holds : IsHeldIn ty new

  pub feeds : (inside old piece once new : List ℕ) (len first second : ℕ) → inside ≡ old → IsHeldIn ty inside → AreOctets piece
      → first ≡ min (19 - length inside) (length piece) → once ≡ inside ++ take first piece → len ≡ wanted_in ty once
      → second ≡ min (len - length once) (length (take (length piece - first) (drop first piece))) → new ≡ once ++ take second (take (length piece - first) (drop first piece))
      → Fed old piece new (first + second)
  feeds inside old piece once new len first second same held octets first_is once_is len_is second_is new_is =
      let rest : take (length piece - first) (drop first piece) ≡ drop first piece = take_rest piece first in
      let f : Fills inside piece first second = record {
        held_is = held;
        octets = octets;
        first_is = first_is;
        second_is = second_is ∙ ap (λ (x : List ℕ). min (len - length once) (length x)) rest ∙ ap (λ (n : ℕ). min (len - length once) n) (length-drop first piece) ∙ ap (λ (n : ℕ). min (n - length once) (length piece - first)) len_is ∙ ap (λ (x : List ℕ). min (wanted_in ty x - length x) (length piece - first)) once_is;
      } in
      let end : new ≡ filled inside piece first second f = new_is ∙ ap (λ (x : List ℕ). once ++ take second x) rest ∙ ap (λ (x : List ℕ). x ++ take second (drop first piece)) once_is in
      record {
        takes = subst (λ (h : List ℕ). TakesIn ty h piece (first + second)) same (Fills-takes inside piece first second f);
        appends = end ∙ filled_is inside piece first second f ∙ ap (λ (h : List ℕ). h ++ take (first + second) piece) same;
        holds = subst (IsHeldIn ty) (sym end) (Fills-held inside piece first second f);
      }

-- a feed of a framer's value is one of an equal value
pub feeds_as : {K G : Type 0} (types : G → Types K) (fine : (g : G) → AreTypes (types g)) (v w : FramerValue G) (piece new : List ℕ) (n : ℕ) → v ≡ w
    → Fed (types v.grammar) (fine v.grammar) v.octets piece new n → Fed (types w.grammar) (fine w.grammar) w.octets piece new n
feeds_as {G = G} types fine v w piece new n same fed = subst (λ (x : FramerValue G). Fed (types x.grammar) (fine x.grammar) x.octets piece new n) same fed
