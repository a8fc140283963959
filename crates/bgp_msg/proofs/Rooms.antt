-- A header in the room reserved for it, before a body.
use Rattle.bgp_wire.proofs.Std.{◌≡◌, ℕ, ◌+◌, ◌≤◌, List, ◌++◌, length, take, drop, ◌↔◌, true, Result, Ok, Err, IsErrOf, OnOk, OnErr, sym, ap, ap₂, subst, ◌∙◌, arith, true≢false, take-append_seam, drop-append_seam, drop-append-add}
use Rattle.std.specs.Result.{is_ok}
use Rattle.std.proofs.lemmas.List.{append_assoc, length-append}
use Rattle.bgp_frame.specs.declared.kind.Kind.{Kind}
use Rattle.bgp_frame.specs.Prelude.{header}
use Rattle.bgp_update.specs.declared.invalid.Invalid.{Invalid}
use Rattle.bgp_update.specs.declared.write.WriteFault.{WriteFault}
use Rattle.bgp_update.specs.declared.write.WriteFault.TheVariants.{NotValid}
use Rattle.bgp_msg.specs.Prelude.{refusal_of}
use Rattle.bgp_msg.proofs.Encodings.{not_ok, not_memory}

module _ (old room body mid : List ℕ) where
  -- what precedes the octets that are removed is unchanged
  pub taken_back : (w : Result (Unit {0}) WriteFault) → OnOk w (mid ≡ (old ++ room) ++ body) → OnErr w (mid ≡ old ++ room) → take (length old) mid ≡ old
  taken_back (Ok x) ok err = ap (take (length old)) (ok ∙ append_assoc old room body) ∙ take-append_seam old (room ++ body)
  taken_back (Err f) ok err = ap (take (length old)) err ∙ take-append_seam old room

  module _ (wide : length room ≡ 19) (whole : mid ≡ (old ++ room) ++ body) where
    in_front : mid ≡ old ++ (room ++ body)
    in_front = whole ∙ append_assoc old room body

    behind_old : drop (length old) mid ≡ room ++ body
    behind_old = ap (drop (length old)) in_front ∙ drop-append_seam old (room ++ body)

    pub long : length (drop (length old) mid) ≡ 19 + length body
    long = ap length behind_old ∙ omega (arith, length-append room body, wide)

    behind_room : drop (length old + 19) mid ≡ body
    behind_room =
        ap₂ (λ (n : ℕ) (l : List ℕ). drop (length old + n) l) (sym wide) in_front
        ∙ drop-append-add old (room ++ body) (length room)
        ∙ drop-append_seam room body

    pub within : length old + 19 ≤ length mid
    within = subst (λ (l : List ℕ). length old + 19 ≤ length l) (sym in_front) (omega (arith, length-append old (room ++ body), length-append room body, wide))

    -- the header before the body, after the earlier octets
    pub headed : (start : ℕ) → start ≡ length old → (kind k : Kind) → k ≡ kind → (new : List ℕ)
        → new ≡ take start mid ++ (header k (length (drop start mid)) ++ drop (start + 19) mid) → new ≡ old ++ (header kind (19 + length body) ++ body)
    headed start begins kind k same new put =
        put
        ∙ ap₂ (λ (n : ℕ) (h : Kind). take n mid ++ (header h (length (drop n mid)) ++ drop (n + 19) mid)) begins same
        ∙ ap₂ (λ (a b : List ℕ). a ++ b) (ap (take (length old)) in_front ∙ take-append_seam old (room ++ body))
        (ap₂ (λ (n : ℕ) (b : List ℕ). header kind n ++ b) long behind_room)

-- ---- the result of writing the body

pub where_ok : (w : Result (Unit {0}) WriteFault) (P : Type 0) → is_ok w ≡ true → OnOk w P → P
where_ok (Ok x) P e ok = ok
where_ok (Err f) P e ok = absurd (true≢false (sym e))

-- a message is refused as not valid where its body is invalid
pub refused : (w : Result (Unit {0}) WriteFault) (why : Invalid) → IsErrOf {T = Unit {0}} (Err (refusal_of w)) (NotValid why) ↔ IsErrOf w (NotValid why)
refused (Ok x) why = ((λ e. absurd (not_memory why e)), (λ e. absurd (not_ok x (NotValid why) e)))
refused (Err f) why = ((λ e. e), (λ e. e))

pub accepted : (w : Result (Unit {0}) WriteFault) (why : Invalid) (x : Unit {0}) → is_ok w ≡ true → IsErrOf {T = Unit {0}} (Ok x) (NotValid why) ↔ IsErrOf w (NotValid why)
accepted (Ok y) why x e = ((λ f. absurd (not_ok x (NotValid why) f)), (λ f. absurd (not_ok y (NotValid why) f)))
accepted (Err f) why x e = absurd (true≢false (sym e))
