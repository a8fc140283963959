-- An attribute that is written: its head, and then its value.
use Rattle.bgp_wire.proofs.Std.{◌≡◌, ℕ, Bool, cond, List, [], ◌∷◌, ◌++◌, length, sym, ap, ◌∙◌, append_assoc, w16, to_be_bytes}
use Rattle.bgp_attr.specs.declared.class.Class.{Class}
use Rattle.bgp_attr.specs.Prelude.{is_extended, flags_octet, tlv_octets}
use Rattle.bgp_attr.proofs.FlagBits.{is_extended-flags}

-- the head that the code writes is that of the flags
head_is : (class : Class) (partial extended : Bool) (len : ℕ)
    → cond extended (to_be_bytes w16 len) (len ∷ []) ≡ cond (is_extended (flags_octet class partial extended)) (to_be_bytes w16 len) (len ∷ [])
head_is class partial extended len = ap (λ (t : Bool). cond t (to_be_bytes w16 len) (len ∷ [])) (sym (is_extended-flags class partial extended))

pub head_then_value : (class : Class) (partial extended : Bool) (flags kind len : ℕ) (value old head new : List ℕ) → flags ≡ flags_octet class partial extended → len ≡ length value
    → head ≡ old ++ flags ∷ kind ∷ cond extended (to_be_bytes w16 len) (len ∷ []) → new ≡ head ++ value → new ≡ old ++ tlv_octets (flags_octet class partial extended) kind value
head_then_value class partial extended flags kind len value old head new flags_is len_is e f =
    f ∙ ap (λ (b : List ℕ). b ++ value) e ∙ append_assoc old (flags ∷ kind ∷ cond extended (to_be_bytes w16 len) (len ∷ [])) value
    ∙ ap (λ (x : ℕ). old ++ x ∷ kind ∷ (cond extended (to_be_bytes w16 len) (len ∷ []) ++ value)) flags_is
    ∙ ap (λ (b : List ℕ). old ++ flags_octet class partial extended ∷ kind ∷ (b ++ value)) (head_is class partial extended len)
    ∙ ap (λ (n : ℕ). old ++ flags_octet class partial extended ∷ kind ∷ (cond (is_extended (flags_octet class partial extended)) (to_be_bytes w16 n) (n ∷ []) ++ value)) len_is
