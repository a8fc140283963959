use Rattle.std.proofs.Common.{◌≡◌, drop}
use Rattle.bgp_terms.specs.Prelude.{families_in, has_family, shared_families, sharing}
use Rattle.bgp_terms.proofs.families.Families.shared.Given as goal

-- with what is left, all families that both offer are found
abbrev pub invariant-loop-family : goal.invariant-loop-family
invariant-loop-family l =
    sharing (has_family (families_in l.others)) (families_in l.shared) (drop l.family-index l.family-items) ≡ shared_families (families_in l.self) (families_in l.others)
