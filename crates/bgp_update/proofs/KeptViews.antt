-- Attributes kept one after another are those kept of the whole.
use Rattle.bgp_wire.proofs.Std.{◌≡◌, ℕ, Bool, true, false, ◌||◌, ◌&&◌, not, eqb, List, [], ◌++◌, Option, refl, sym, ap, ◌∙◌, flat_map, list_any, find-append, list_any-append, option_or}
use Rattle.bgp_attr.specs.declared.attr.Attr.{Attr}
use Rattle.bgp_attr.specs.declared.opaque.Opaque.{Opaque}
use Rattle.bgp_attr.specs.Prelude.{type_of}
use Rattle.bgp_update.specs.declared.kept_view.KeptView.{KeptView}
use Rattle.bgp_update.specs.Prelude.{Kept, known_of, known_value, kept_value, kept_in, kept_behind, attrs_from, attrs_of, first_known, is_opaque, as_opaque, rising_behind}
use Rattle.bgp_update.proofs.Options.{option_or-assoc, option_or-none}

pub or_false : (t : Bool) → (t || false) ≡ t
or_false true = refl
or_false false = refl

pub or_true : (t : Bool) → (t || true) ≡ true
or_true true = refl
or_true false = refl

or-assoc : (a b c : Bool) → ((a || b) || c) ≡ (a || (b || c))
or-assoc true b c = refl
or-assoc false b c = refl

-- starting from none, they are those of the whole
pub kept_whole : (kept : List Attr) → kept_behind (kept_in []) kept ≡ kept_in kept
kept_whole kept = refl

pub kept_none : (k : Kept) → kept_behind k [] ≡ k
kept_none k = λ i. record { known = λ kind. option_or-none (k.known kind) i; others = or_false k.others i }

pub kept_append : (k : Kept) (xs ys : List Attr) → kept_behind (kept_behind k xs) ys ≡ kept_behind k (xs ++ ys)
kept_append k xs ys = λ i. record {
  known = λ kind.
      (option_or-assoc (k.known kind) (first_known xs kind) (first_known ys kind)
      ∙ ap (option_or (k.known kind)) (sym (find-append (λ a. not (is_opaque a) && eqb (type_of a) kind) xs ys))) i;
  others = (or-assoc k.others (list_any is_opaque xs) (list_any is_opaque ys) ∙ ap (λ (t : Bool). k.others || t) (sym (list_any-append is_opaque xs ys))) i;
}

-- so are those of recognised types
known_from : (first : ℕ → Option Attr) (others : List Opaque) → attrs_from first [] ≡ known_of (attrs_from first others)
unfolding attrs_from
known_from first others = refl

pub kept_known : (k : KeptView) (kept : List Attr) → kept_value k ≡ kept_in kept → known_value k ≡ known_of (attrs_of kept)
kept_known k kept e = ap (λ (found : Kept). attrs_from found.known []) e ∙ known_from (first_known kept) (rising_behind [] (flat_map as_opaque kept))
