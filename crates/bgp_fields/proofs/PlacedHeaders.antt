-- Each fault of a header has a span.
use Rattle.bgp_fields.proofs.Prelude.{◌≡◌, ℕ, zero, suc, ◌+◌, ◌<◌, ◌≤◌, ◌||◌, ◌&&◌, ◌==◌, nat_eq, nat_lt, Bool, true, false, cond, List, [], ◌∷◌, length}
use Rattle.bgp_fields.proofs.Prelude.{take, replicate, Option, Some, None, Err, refl, sym, ap, subst, ◌∙◌, arith, true≢false, eqb-true, Kind, HeadFault}
use Rattle.bgp_fields.proofs.Prelude.{has_marker, length_field, type_field, head_for, head_of, head_of_in, kind_of, is_length, first_other, header_place, HasPlace}
use Rattle.std.specs.Cmp.Lexicographic.{pointwise}

step-by : (k at x : ℕ) (b : List ℕ) (t : Bool) → (x == 255) ≡ t → (nat_eq 255 x && pointwise nat_eq (replicate k 255) (take k b)) ≡ false
    → (pointwise nat_eq (replicate k 255) (take k b) ≡ false → first_other (at + 1) b < at + 1 + k) → first_other at (x ∷ b) < at + suc k
step-by k at x b false is e later = subst (λ (t : Bool). cond t (first_other (at + 1) b) at < at + suc k) (sym is) (omega arith)
step-by k at x b true is e later =
    let same : x ≡ 255 = eqb-true x 255 is in
    let rest : pointwise nat_eq (replicate k 255) (take k b) ≡ false = sym (ap (λ (y : ℕ). nat_eq 255 y && pointwise nat_eq (replicate k 255) (take k b)) same) ∙ e in
    let more = later rest in
    subst (λ (t : Bool). cond t (first_other (at + 1) b) at < at + suc k) (sym is) (omega (arith, more))

-- among octets of which one isn't 255, the first one that isn't
other-within : (k at : ℕ) (b : List ℕ) → k ≤ length b → pointwise nat_eq (replicate k 255) (take k b) ≡ false → first_other at b < at + k
other-within zero at b le e = absurd (true≢false e)
other-within (suc k) at [] le e = absurd (omega (arith, le))
other-within (suc k) at (x ∷ b) le e = step-by k at x b (x == 255) refl e (λ rest. other-within k (at + 1) b (omega (arith, le)) rest)

-- a Marker has a fault where one of its octets isn't 255
fits-not : (k : Kind) (code n : ℕ) (t : Bool) → is_length k n ≡ t → head_for (Some k) code n ≡ Err HeadFault.Marker → ⊥
fits-not k code n true is e = absurd (let no = rw is at e in cc)
fits-not k code n false is e = absurd (let no = rw is at e in cc)

kind-not : (o : Option Kind) (code n : ℕ) → head_for o code n ≡ Err HeadFault.Marker → ⊥
kind-not None code n e = absurd cc
kind-not (Some k) code n e = fits-not k code n (is_length k n) refl e

length-not : (bad : Bool) (o : Option Kind) (code n : ℕ) → cond bad (Err (HeadFault.Length n)) (head_for o code n) ≡ Err HeadFault.Marker → ⊥
length-not true o code n e = absurd cc
length-not false o code n e = kind-not o code n e

marker-by : (h : List ℕ) (t : Bool) → has_marker h ≡ t → head_of h ≡ Err HeadFault.Marker → t ≡ false
unfolding head_of_in
marker-by h false is e = refl
marker-by h true is e =
    absurd (length-not (nat_lt (length_field h) 19 || nat_lt 4096 (length_field h)) (kind_of (type_field h)) (type_field h) (length_field h) (rw is at e))

pub header-placed : (octets : List ℕ) (f : HeadFault) → 19 ≤ length octets → head_of octets ≡ Err f → HasPlace 19 (Some (header_place octets f))
header-placed octets HeadFault.Marker long e =
    let other = other-within 16 0 octets (omega (arith, long)) (marker-by octets (has_marker octets) refl e) in
    (omega arith, omega (arith, other))
header-placed octets (HeadFault.Length n) long e = (omega arith, omega arith)
header-placed octets (HeadFault.Kind code) long e = (omega arith, omega arith)
