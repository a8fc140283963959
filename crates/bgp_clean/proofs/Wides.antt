-- What is cleaned by terms of a message of RFC 4271 is what is cleaned in their context.
use Rattle.bgp_clean.proofs.Prelude.{◌≡◌, ℕ, List, [], ◌∷◌, ◌++◌, map, Result, Ok, Err, refl, sym, ap, ◌∙◌, Message, CleanFault, octets_handed, IsCleaned}
use Rattle.bgp_msg.specs.Prelude.{canonical}
use Rattle.bgp_terms.specs.Prelude.{Agreed}
use Rattle.bgp_clean.specs.declared.cleaned.Cleaned.{Cleaned}
use Rattle.bgp_clean.specs.Prelude.{IsCleanedIn, base, bases, octets_handed_in}

pub octets_same : (terms : Agreed) (ns : List Message) → octets_handed_in terms (map base ns) ≡ octets_handed terms.context ns
octets_same terms [] = refl
octets_same terms (n ∷ ns) = ap (λ (later : List ℕ). canonical terms.context n ++ later) (octets_same terms ns)

pub cleaned_base : (terms : Agreed) (r : Result (List Message) CleanFault) (old new : List ℕ) (c : Cleaned) → IsCleaned terms.context r old new c → IsCleanedIn terms (bases r) old new c
cleaned_base terms (Ok ns) old new Cleaned.HandedOn is = is ∙ ap (λ (b : List ℕ). old ++ b) (sym (octets_same terms ns))
cleaned_base terms (Ok ns) old new (Cleaned.Ends f) is = absurd is
cleaned_base terms (Err f) old new Cleaned.HandedOn is = absurd is
cleaned_base terms (Err f) old new (Cleaned.Ends g) is = is
