-- Records that grow by several additions.
use Rattle.bgp_host.proofs.Prelude.{List, [], ◌++◌, sym, ap, Option, None, Some, Result, Ok, Err, ◌∙◌, append_assoc, OnErr, append-nil, Grows}

pub grows_none : {A : Type 0} → (record_ : Option (List A)) → Grows record_ record_ []
grows_none None = tt
grows_none (Some so_far) = sym (append-nil so_far)

pub grows_both : {A : Type 0} → (old mid new : Option (List A)) → (a b : List A) → Grows old mid a → Grows mid new b → Grows old new (a ++ b)
grows_both None mid new a b first second = tt
grows_both (Some old) None new a b first second = absurd first
grows_both (Some old) (Some mid) None a b first second = absurd second
grows_both (Some old) (Some mid) (Some new) a b first second = second ∙ ap (λ (l : List _). l ++ b) first ∙ append_assoc old a b

pub on_err : {A E P : Type 0} (r : Result A E) → P → OnErr r P
on_err (Ok a) p = tt
on_err (Err e) p = p
