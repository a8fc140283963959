-- The length of an attribute's written form.
use Rattle.bgp_wire.proofs.Std.{◌≡◌, ℕ, ◌+◌, Bool, true, false, cond, ltb, List, [], ◌∷◌, length, refl, ap, ◌∙◌, arith, w16, to_be_bytes}
use Rattle.std.proofs.lemmas.List.{length-append}
use Rattle.bgp_open.specs.declared.context.Context.{Context}
use Rattle.bgp_attr.specs.declared.attr.Attr.{Attr}
use Rattle.bgp_attr.specs.declared.class.Class.{Class}
use Rattle.bgp_attr.specs.Prelude.{is_extended, flags_octet, length_octets, class_of, partial_of, type_of, value_octets, made, canonical, reach_row, run_octets}
use Rattle.bgp_prefix.specs.Prelude.{PrefixValue}
use Rattle.bgp_attr.proofs.FlagBits.{is_extended-flags}

two_or_one : (t : Bool) (n : ℕ) → length (cond t (to_be_bytes w16 n) (n ∷ [])) ≡ cond t 2 1
two_or_one true n = refl
two_or_one false n = refl

-- flags, type, length and value
pub length-made : (class : Class) (partial : Bool) (kind : ℕ) (v : List ℕ) → length (made class partial kind v).whole ≡ (2 + cond (ltb 255 (length v)) 2 1) + length v
length-made class partial kind v =
    let ext = ltb 255 (length v) in
    let flags = flags_octet class partial ext in
    let size : length (length_octets flags (length v)) ≡ cond ext 2 1 = two_or_one (is_extended flags) (length v) ∙ ap (λ (t : Bool). cond t 2 1) (is_extended-flags class partial ext) in
    omega (arith, length-append (length_octets flags (length v)) v)

pub length-canonical : (ctx : Context) (a : Attr) → length (canonical ctx a) ≡ (2 + cond (ltb 255 (length (value_octets ctx a))) 2 1) + length (value_octets ctx a)
length-canonical ctx a = length-made (class_of a) (partial_of a) (type_of a) (value_octets ctx a)

-- a family, next hops, a reserved octet, and prefixes
pub reach_added : (afi : ℕ) (hop : List ℕ) (routes : List PrefixValue) → length (reach_row afi hop routes) ≡ 5 + length hop + length (run_octets routes)
reach_added afi hop routes = omega (arith, length-append hop (0 ∷ run_octets routes))
