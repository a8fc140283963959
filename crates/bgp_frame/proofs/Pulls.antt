-- What is pulled from a piece after what is held.
use Rattle.bgp_wire.proofs.Std.{◌≡◌, ℕ, ◌≤◌, List, [], ◌∷◌, ◌++◌, ◌⊎◌, length, take, drop, refl, sym, ap, subst, ◌∙◌, arith, inl, inr, take-append-drop}
use Rattle.std.proofs.lemmas.List.{length-take, append-nil}
use Rattle.bgp_frame.specs.declared.fault.HeadFault.{HeadFault}
use Rattle.bgp_frame.specs.Prelude.{AreTypes, FrameIn, IsPullIn, PullsIn, ShowsFrontIn, ShowsStepIn, StopsIn, Types, WaitsIn, head_of_in, wanted_in}
use Rattle.bgp_frame.specs.declared.pull.Pull.TheVariants as pull
use Rattle.bgp_frame.specs.declared.step.Step.TheVariants as step
use Rattle.bgp_frame.proofs.FrameLemmas.{head_of-append, wanted-append, wanted-bounds, Stops-wanted}

module _ {K : Type 0} (ty : Types K) (okay : AreTypes ty) where
  pub nothing_waits : WaitsIn ty []
  nothing_waits = let bounds = wanted-bounds ty okay [] in omega arith

  -- nothing is held where no octet is
  pub none_held : (held : List ℕ) → length held ≤ 0 → held ≡ []
  none_held [] none = refl
  none_held (octet ∷ held) none = absurd (omega arith)

  module _ (piece : List ℕ) where
    -- a whole front of a piece is as long as the piece wants
    front_wanted : (n : ℕ) → n ≤ length piece → StopsIn ty (take n piece) → wanted_in ty piece ≡ n
    front_wanted n within stops =
        let long = Stops-wanted ty okay (take n piece) stops in
        let count = length-take n piece in
        let same : wanted_in ty piece ≡ wanted_in ty (take n piece) = ap (wanted_in ty) (sym (take-append-drop n piece)) ∙ wanted-append ty okay (take n piece) (drop n piece) long.0 in
        omega (arith, long.1)

    pub front_pulls : (n : ℕ) → n ≤ length piece → StopsIn ty (take n piece) → PullsIn ty [] piece n
    front_pulls n within stops = record {
      takes = record {
        within = within;
        no_sooner = λ k lt sooner.
            let first = front_wanted k (omega arith) sooner in
            let whole = front_wanted n within stops in
            omega arith;
        all_or_stops = inr stops;
      };
      one_place = inr refl;
    }

    front_fault : (f : HeadFault) → ShowsFrontIn ty piece (step.Fault f) → ShowsStepIn ty (take 19 piece) (step.Fault f)
    front_fault f front =
        let long = front.0 in
        let count = length-take 19 piece in
        (omega arith, sym (head_of-append ty okay (take 19 piece) (drop 19 piece) (omega arith)) ∙ ap (head_of_in ty) (take-append-drop 19 piece) ∙ front.1)

    -- no octets are held
    module _ (held : List ℕ) (n : ℕ) (count : n ≡ length held) (none : n ≤ 0) where
      nothing : held ≡ []
      nothing = none_held held (omega arith)

      pub pull_more : ShowsFrontIn ty piece step.More → IsPullIn ty held piece pull.Feed
      pull_more waits = record { waits = subst (WaitsIn ty) (sym nothing) nothing_waits; no_front = inr waits }

      pub pull_frame : (frame : FrameIn K) → ShowsFrontIn ty piece (step.Frame frame) → IsPullIn ty held piece (pull.Frame frame.len frame)
      pull_frame frame front =
          let long = front.0 in
          let size = length-take frame.len piece in
          subst (λ (h : List ℕ). IsPullIn ty h piece (pull.Frame frame.len frame)) (sym nothing) (front_pulls frame.len front.0 (inl (_, front.1)), (front.1, omega arith))

      pub pull_fault : (f : HeadFault) → ShowsFrontIn ty piece (step.Fault f) → IsPullIn ty held piece (pull.Fault 19 f)
      pull_fault f front =
          let faulty = front_fault f front in
          subst (λ (h : List ℕ). IsPullIn ty h piece (pull.Fault 19 f)) (sym nothing) (front_pulls 19 front.0 (inr (faulty.0, (f, faulty.1))), faulty)

    module _ (held : List ℕ) where
      pub held_pulls : StopsIn ty held → PullsIn ty held piece 0
      held_pulls stops = record {
        takes = record {
          within = omega arith;
          no_sooner = λ k lt sooner. absurd (omega arith);
          all_or_stops = inr (subst (StopsIn ty) (sym (append-nil held)) stops);
        };
        one_place = inl refl;
      }

      pub pull_held_frame : (frame : FrameIn K) → ShowsStepIn ty held (step.Frame frame) → IsPullIn ty held piece (pull.Frame 0 frame)
      pull_held_frame frame is = (held_pulls (inl (_, is.0)), subst (λ (b : List ℕ). ShowsStepIn ty b (step.Frame frame)) (sym (append-nil held)) is)

      pub pull_held_fault : (f : HeadFault) → ShowsStepIn ty held (step.Fault f) → IsPullIn ty held piece (pull.Fault 0 f)
      pull_held_fault f is = (held_pulls (inr (is.0, (f, is.1))), subst (λ (b : List ℕ). ShowsStepIn ty b (step.Fault f)) (sym (append-nil held)) is)

  -- what holds of all octets that are pulled, holds of what is held, or of the front of the piece
  pub held_or_front : (held piece : List ℕ) (n : ℕ) (P : List ℕ → Type 0) → PullsIn ty held piece n → P (held ++ take n piece)
      → ((n ≡ 0) × P held) ⊎ ((held ≡ []) × P (take n piece))
  held_or_front held piece n P pulls p =
      elim pulls.one_place [
        | inl none ↦ inl (none, subst P (ap (λ (k : ℕ). held ++ take k piece) none ∙ append-nil held) p)
        | inr nothing ↦ inr (nothing, subst (λ (h : List ℕ). P (h ++ take n piece)) nothing p)
      ]
