-- What two OPENs offer gives their terms.
use Rattle.ristulva_c.proofs.Below.{◌≡◌, Open, ap₂, ◌∙◌}
use Rattle.bgp_open.specs.Prelude.{Said, said_by, said_of}
use Rattle.bgp_terms.specs.declared.offers.Offers.{Offers}
use Rattle.bgp_terms.specs.Prelude.{Offered, offered_by, offered_in, terms_of, terms_with}

pub same_terms : (reader sender : Open) (a b : Offers) → (said_of a.peer ≡ said_by reader) × (offered_in a ≡ offered_by reader.caps)
    → (said_of b.peer ≡ said_by sender) × (offered_in b ≡ offered_by sender.caps)
    → terms_with (said_of a.peer) (offered_in a) (said_of b.peer) (offered_in b) ≡ terms_of reader sender
same_terms reader sender a b p q =
    ap₂ (λ (s : Said) (o : Offered). terms_with s o (said_of b.peer) (offered_in b)) p.0 p.1
    ∙ ap₂ (λ (s : Said) (o : Offered). terms_with (said_by reader) (offered_by reader.caps) s o) q.0 q.1
