-- The body of an UPDATE, before its two length fields are set.
use Rattle.std.specs.Prelude.{◌≡◌, ◌+◌, ℕ, List, ◌∷◌, ◌++◌, length}
use Rattle.std.specs.List.{AllByRecursion}
use Rattle.bgp_open.specs.declared.context.Context.{Context}
use Rattle.bgp_prefix.specs.Prelude.{IsValid}
use Rattle.bgp_attr.specs.Prelude.{run_octets, HasRanges}
use Rattle.bgp_update.specs.declared.update.Update.{Update}
use Rattle.bgp_update.specs.declared.laying.Places.{Places}
use Rattle.bgp_update.specs.Slots.{attr_list}
use Rattle.bgp_update.specs.Written.{attributes_octets}

-- after what was there, three parts, two of them after room for their lengths; and where these two fields and the third part begin
pub record LaysOut (withdrawn attributes nlri : List ℕ) (start : ℕ) (old new : List ℕ) (p : Places) : Type 0 where
  pub whole : new ≡ old ++ (0 ∷ 0 ∷ (withdrawn ++ (0 ∷ 0 ∷ (attributes ++ nlri))))
  pub first : start ≡ length old
  pub second : p.attributes ≡ start + 2 + length withdrawn
  pub third : p.nlri ≡ p.attributes + 2 + length attributes

-- the parts of the body of an UPDATE
abbrev pub LaysOutBody : Context → Update → ℕ → List ℕ → List ℕ → Places → Type 0
LaysOutBody ctx u start old new p = LaysOut (run_octets u.withdrawn) (attributes_octets ctx u.attrs) (run_octets u.nlri) start old new p

-- what writing the parts proves of the ranges of their numbers
pub record HasPartRanges (u : Update) : Type 0 where
  pub withdrawn : AllByRecursion (IsValid 4) u.withdrawn
  pub attributes : AllByRecursion HasRanges (attr_list u.attrs)
  pub nlri : AllByRecursion (IsValid 4) u.nlri
