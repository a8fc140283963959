-- Messages interleaved with KEEPALIVEs of the guard's own.
use Rattle.bgp_guard.proofs.Prelude.{List, [], ◌∷◌, ◌++◌, refl, sym, ap, subst, inl, inr, Message, WideMessage, WithKeepalives, base}

pub with_none : (said : List WideMessage) → WithKeepalives said said
with_none [] = refl
with_none (n ∷ later) = inl (record { later = later; is = refl; rest = with_none later })

-- more messages in both lists
pub with_more : (handed said more : List WideMessage) → WithKeepalives handed said → WithKeepalives (handed ++ more) (said ++ more)
with_more [] said more none = subst (λ (xs : List WideMessage). WithKeepalives more (xs ++ more)) (sym none) (with_none more)
with_more (n ∷ later) said more (inl h) =
    inl (record { later = h.later ++ more; is = ap (λ (xs : List WideMessage). xs ++ more) h.is; rest = with_more later h.later more h.rest })
with_more (n ∷ later) said more (inr h) = inr (h.0, with_more later said more h.1)

-- a KEEPALIVE of its own
pub with_one : (handed said : List WideMessage) → WithKeepalives handed said → WithKeepalives (handed ++ base Message.Keepalive ∷ []) said
with_one [] said none = inr (refl, none)
with_one (n ∷ later) said (inl h) = inl (record { later = h.later; is = h.is; rest = with_one later h.later h.rest })
with_one (n ∷ later) said (inr h) = inr (h.0, with_one later said h.1)
