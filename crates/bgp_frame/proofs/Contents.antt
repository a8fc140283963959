-- What octets are: a message, a header with a fault, or nothing yet.
use Rattle.bgp_wire.proofs.Std.{◌≡◌, ℕ, ◌≤◌, ◌⊎◌, List, length, drop, Some, None, Result, Ok, Err, refl, sym, ap, subst, ◌∙◌, arith, inl, inr, cases_lt, le-ltb}
use Rattle.std.specs.Result.{result_map_both}
use Rattle.std.proofs.lemmas.Bool.{lt-ltb}
use Rattle.bgp_frame.specs.declared.fault.HeadFault.{HeadFault}
use Rattle.bgp_frame.specs.Prelude.{AreTypes, IsFrameIn, IsHeldIn, MessageIn, Types, WaitsIn, content_in, content_of_in, head_of_in, wanted_by, wanted_in}
use Rattle.bgp_frame.proofs.FrameLemmas.{head_of-IsFrame, IsFrame-wanted, wanted_by_head, wanted-bounds, IsFrame-head_of}

module _ {K : Type 0} (ty : Types K) (okay : AreTypes ty) where
  -- the content of enough octets
  pub enough : (b : List ℕ) → wanted_in ty b ≤ length b → content_of_in ty b ≡ Some (content_in ty b)
  enough b long = rw (le-ltb (length b) (wanted_in ty b) long) refl

  pub content_of-waits : (b : List ℕ) → WaitsIn ty b → content_of_in ty b ≡ None
  content_of-waits b waits = rw (lt-ltb (length b) (wanted_in ty b) waits) refl

  body_of : (m : MessageIn K) (b : List ℕ) → IsFrameIn ty m b → drop 19 b ≡ m.body
  body_of m b f = ap (drop 19) f.octets

  pub content_of-frame : (m : MessageIn K) (b : List ℕ) → IsFrameIn ty m b → content_of_in ty b ≡ Some (Ok m)
  content_of-frame m b f =
      let wants = IsFrame-wanted ty okay m b f in
      enough b (omega arith)
      ∙ ap Some (ap (result_map_both (λ head. record { kind = head.kind; body = drop 19 b }) (λ fault. fault)) (head_of-IsFrame ty okay m b f)
      ∙ ap (λ (body : List ℕ). Ok (record { kind = m.kind; body = body })) (body_of m b f))

  pub content_of-fault : (b : List ℕ) (f : HeadFault) → length b ≡ 19 → head_of_in ty b ≡ Err f → content_of_in ty b ≡ Some (Err f)
  content_of-fault b f len e =
      let wants = wanted_by_head ty okay b (omega arith) ∙ ap wanted_by e in
      enough b (omega arith)
      ∙ ap (λ r. Some (result_map_both (λ head. record { kind = head.kind; body = drop 19 b }) (λ fault. fault) r)) e

  -- ---- the message that is held

  cases_of : {T E : Type 0} (r : Result T E) → ((v : T) × (r ≡ Ok v)) ⊎ ((e : E) × (r ≡ Err e))
  cases_of (Ok v) = inl (v, refl)
  cases_of (Err e) = inr (e, refl)

  same_message : (a b : MessageIn K) (r : Result (MessageIn K) HeadFault) → r ≡ Ok a → r ≡ Ok b → a ≡ b
  same_message a b r is says = cc

  neither : (r : Result (MessageIn K) HeadFault) (f : HeadFault) (m : MessageIn K) → r ≡ Err f → r ≡ Ok m → ⊥
  neither r f m faulty fine = cc

  content-frame : (m : MessageIn K) (b : List ℕ) → IsHeldIn ty b → wanted_in ty b ≤ length b → content_in ty b ≡ Ok m → IsFrameIn ty m b
  content-frame m b held long is =
      let bounds = wanted-bounds ty okay b in
      let there : 19 ≤ length b = omega (arith, bounds.0) in
      elim (cases_of (head_of_in ty b)) [
        | inl found ↦
            let wants = wanted_by_head ty okay b there ∙ ap wanted_by found.1 in
            let frame = IsFrame-head_of ty okay b found.0 held.octets found.1 (omega (arith, held.within)) in
            let says = ap (result_map_both (λ head. record { kind = head.kind; body = drop 19 b }) (λ fault. fault)) found.1 in
            subst (λ (x : MessageIn K). IsFrameIn ty x b) (same_message (record { kind = found.0.kind; body = drop 19 b }) m (content_in ty b) says is) frame
        | inr fault ↦
            let says = ap (result_map_both (λ head. record { kind = head.kind; body = drop 19 b }) (λ fault. fault)) fault.1 in
            absurd (neither (content_in ty b) fault.0 m says is)
      ]

  pub content_of-message : (m : MessageIn K) (b : List ℕ) → IsHeldIn ty b → content_of_in ty b ≡ Some (Ok m) → IsFrameIn ty m b
  content_of-message m b held is =
      elim (cases_lt (length b) (wanted_in ty b)) [
        | inl waits ↦ absurd (let not : None ≡ Some (Ok m) = sym (content_of-waits b waits) ∙ is in cc)
        | inr long ↦ content-frame m b held long (let same : Some (content_in ty b) ≡ Some (Ok m) = sym (enough b long) ∙ is in cc)
      ]
