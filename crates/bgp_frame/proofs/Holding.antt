-- What a piece begins with, and what can be held.
use Rattle.bgp_wire.proofs.Std.{◌≡◌, ℕ, ◌+◌, ◌-◌, ◌<◌, ◌≤◌, ◌⊎◌, List, [], length, take, drop, Ok, Err, sym, ap, subst, ◌∙◌, arith, inl, inr, slice_range, take-append-drop, drop-take}
use Rattle.std.proofs.lemmas.List.{length-take, take_all}
use Rattle.bgp_wire.specs.Prelude.{AreOctets}
use Rattle.bgp_wire.proofs.OctetLemmas.{AreOctets-nil, AreOctets-take}
use Rattle.bgp_frame.specs.declared.fault.HeadFault.{HeadFault}
use Rattle.bgp_frame.specs.Prelude.{AreTypes, HeaderIn, IsFrameIn, IsHeldIn, MessageIn, ShowsFrontIn, ShowsStepIn, StepIn, Types, WaitsIn, head_of_in, wanted_by, wanted_in}
use Rattle.bgp_frame.specs.declared.step.Step.TheVariants as step
use Rattle.bgp_frame.proofs.HeadLemmas.{Says-head_of, above_18}
use Rattle.bgp_frame.proofs.FrameLemmas.{head_of-append, length-IsFrame, wanted_under, wanted_by_head, wanted-append, IsFrame-wanted, IsFrame-head_of}

module _ {K : Type 0} (ty : Types K) (okay : AreTypes ty) where
  pub IsHeld_nil : IsHeldIn ty []
  IsHeld_nil = record { octets = AreOctets-nil; within = omega arith }

  pub shows_short : (b : List ℕ) → length b < 19 → WaitsIn ty b
  shows_short b short = let e = wanted_under ty okay b short in omega arith

  -- a header without fault, and less than its Length
  pub shows_more : (b : List ℕ) (h : HeaderIn K) → 19 ≤ length b → head_of_in ty b ≡ Ok h → (h.len < 19) ⊎ (length b < h.len) → WaitsIn ty b
  shows_more b h long e (inl low) = let least = above_18 ty okay h.kind h.len (Says-head_of ty okay b h e).fits in omega arith
  shows_more b h long e (inr short) = let is = wanted_by_head ty okay b long ∙ ap wanted_by e in omega arith

  -- the first octets, of the length in the header
  module _ (b : List ℕ) (h : HeaderIn K) (octets : AreOctets b) (e : head_of_in ty b ≡ Ok h) (enough : h.len ≤ length b) where
    abbrev whole : List ℕ
    whole = take h.len b

    whole_long : (length whole ≡ h.len) × (19 ≤ length whole)
    whole_long =
        let least = above_18 ty okay h.kind h.len (Says-head_of ty okay b h e).fits in
        let long = length-take h.len b in
        (omega arith, omega arith)

    whole_head : head_of_in ty whole ≡ Ok h
    whole_head = sym (head_of-append ty okay whole (drop h.len b) whole_long.1) ∙ ap (head_of_in ty) (take-append-drop h.len b) ∙ e

    pub shows_frame : (body : List ℕ) → body ≡ slice_range b 19 h.len → (h.len ≤ length b) × IsFrameIn ty (record { kind = h.kind; body = body }) whole
    shows_frame body is =
        let least = above_18 ty okay h.kind h.len (Says-head_of ty okay b h e).fits in
        let parts : h.len ≡ 19 + (h.len - 19) = omega arith in
        let back : drop 19 whole ≡ body = ap (λ (n : ℕ). drop 19 (take n b)) parts ∙ drop-take 19 (h.len - 19) b ∙ sym is in
        (enough, subst (λ (x : List ℕ). IsFrameIn ty (record { kind = h.kind; body = x }) whole) back (IsFrame-head_of ty okay whole h (AreOctets-take h.len b octets) whole_head whole_long.0))

  -- ---- what is held ends with its first message

  held_frame : (b : List ℕ) (m : MessageIn K) (n : ℕ) → IsHeldIn ty b → n ≤ length b → IsFrameIn ty m (take n b) → IsFrameIn ty m b × (n ≡ length b)
  held_frame b m n held within frame =
      let long = length-IsFrame ty okay m (take n b) frame in
      let count = length-take n b in
      let same : wanted_in ty b ≡ wanted_in ty (take n b) = ap (wanted_in ty) (sym (take-append-drop n b)) ∙ wanted-append ty okay (take n b) (drop n b) (omega arith) in
      let wants = IsFrame-wanted ty okay m (take n b) frame in
      let fits = held.within in
      let all : n ≡ length b = omega arith in
      (subst (λ (x : List ℕ). IsFrameIn ty m x) (take_all n b (omega arith)) frame, all)

  held_fault : (b : List ℕ) (f : HeadFault) → IsHeldIn ty b → 19 ≤ length b → head_of_in ty b ≡ Err f → length b ≡ 19
  held_fault b f held long e =
      let is = wanted_by_head ty okay b long ∙ ap wanted_by e in
      let fits = held.within in
      omega arith

  pub front_held : (b : List ℕ) (s : StepIn K) → IsHeldIn ty b → ShowsFrontIn ty b s → ShowsStepIn ty b s
  front_held b step.More held waits = waits
  front_held b (step.Frame frame) held front = held_frame b (record { kind = frame.kind; body = frame.body.now }) frame.len held front.0 front.1
  front_held b (step.Fault f) held front = (held_fault b f held front.0 front.1, front.1)
