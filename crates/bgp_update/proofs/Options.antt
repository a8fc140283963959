-- The first of optional values.
use Rattle.bgp_wire.proofs.Std.{◌≡◌, Option, Some, None, refl, option_or}
use Rattle.std.specs.Prelude.{option_map}

module _ {A : Type 0} where
  pub option_or-assoc : (a b c : Option A) → option_or (option_or a b) c ≡ option_or a (option_or b c)
  option_or-assoc None b c = refl
  option_or-assoc (Some x) b c = refl

  pub option_or-none : (a : Option A) → option_or a None ≡ a
  option_or-none None = refl
  option_or-none (Some x) = refl

-- the value that was set where there was none
pub map_filled : {A B : Type 0} (f : A → B) (slot : Option A) (value : A)
    → option_map f (option_or slot (Some value)) ≡ option_or (option_map f slot) (Some (f value))
map_filled f None value = refl
map_filled f (Some there) value = refl
