-- A header and a body are a frame.
use Rattle.bgp_wire.proofs.Std.{◌≡◌, ℕ, ◌+◌, ◌≤◌, List, ◌++◌, length, refl, ap, arith}
use Rattle.std.proofs.lemmas.List.{length-append}
use Rattle.bgp_frame.specs.Prelude.{AreTypes, IsFrameIn, IsLengthIn, Types, header_in}

module _ {K : Type 0} (ty : Types K) (okay : AreTypes ty) where
  pub below_limit : (kind : K) (n : ℕ) → IsLengthIn ty kind n → n ≤ ty.limit
  below_limit kind n h = let most = okay.short kind in omega (arith, h.most)

  pub length-header : (kind : K) (n : ℕ) → length (header_in ty kind n) ≡ 19
  length-header kind n = refl

  pub makes_frame : (kind : K) (n : ℕ) (h body : List ℕ) → IsLengthIn ty kind (19 + n) → h ≡ header_in ty kind (19 + n) → length body ≡ n → IsFrameIn ty (record { kind = kind; body = body }) (h ++ body)
  makes_frame kind n h body fits is len =
      let k : length (h ++ body) ≡ 19 + n = omega (arith, length-append h body, ap length is, length-header kind (19 + n)) in
      record {
        octets = rw (is, len) refl;
        allowed = rw k fits;
      }
