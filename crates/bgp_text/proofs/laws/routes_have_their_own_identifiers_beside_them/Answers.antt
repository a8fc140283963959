use Rattle.bgp_text.proofs.Prelude.{◌≡◌, ◌∙◌, ◌++◌, ◌∷◌, List, [], ℕ, ap, append_assoc, map, refl}
use Rattle.bgp_prefix.specs.Prelude.{PrefixValue}
use Rattle.bgp_paths.specs.Prelude.{PathPrefixValue, numbers_of}
use Rattle.bgp_text.specs.declared.beside.Beside.{Beside}
use Rattle.bgp_text.specs.Beside.{beside, prefixes_of, received}
use Rattle.bgp_text.proofs.laws.routes_have_their_own_identifiers_beside_them.Goals as goal

own : (rs : List PathPrefixValue) → beside (prefixes_of rs) (numbers_of rs) ≡ map received rs
own [] = refl
own (r ∷ rs) = ap (λ (bs : List (Beside PrefixValue)). received r ∷ bs) (own rs)

-- and what follows them, beside what follows their path identifiers
own_first : (rs : List PathPrefixValue) (routes : List PrefixValue) (numbers : List ℕ)
    → beside (prefixes_of rs ++ routes) (numbers_of rs ++ numbers) ≡ map received rs ++ beside routes numbers
own_first [] routes numbers = refl
own_first (r ∷ rs) routes numbers = ap (λ (bs : List (Beside PrefixValue)). received r ∷ bs) (own_first rs routes numbers)

pub returns-clause-run : goal.returns-clause-run
returns-clause-run c = own

pub returns-clause-ip4 : goal.returns-clause-ip4
returns-clause-ip4 c = λ w u u6 r r6 n.
    ap (beside (prefixes_of w ++ (prefixes_of u ++ (prefixes_of r ++ prefixes_of n)))) (append_assoc (numbers_of w) (numbers_of u) (numbers_of r ++ numbers_of n))
    ∙ own_first w (prefixes_of u ++ (prefixes_of r ++ prefixes_of n)) (numbers_of u ++ (numbers_of r ++ numbers_of n))
    ∙ ap (λ (bs : List (Beside PrefixValue)). map received w ++ bs) (own_first u (prefixes_of r ++ prefixes_of n) (numbers_of r ++ numbers_of n)
    ∙ ap (λ (bs : List (Beside PrefixValue)). map received u ++ bs) (own_first r (prefixes_of n) (numbers_of n)
    ∙ ap (λ (bs : List (Beside PrefixValue)). map received r ++ bs) (own n)))

pub returns-clause-ip6 : goal.returns-clause-ip6
returns-clause-ip6 c = λ w u u6 r r6 n.
    own_first u6 (prefixes_of r6) (numbers_of r6) ∙ ap (λ (bs : List (Beside PrefixValue)). map received u6 ++ bs) (own r6)
