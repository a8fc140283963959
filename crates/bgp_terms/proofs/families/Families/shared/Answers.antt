use Rattle.bgp_terms.specs.Prelude.{families_in, has_family}
use Rattle.bgp_terms.proofs.KeptFamilies.{sharing-init}
use Rattle.bgp_terms.proofs.families.Families.shared.Goals as goal

pub loop-family-init : goal.loop-family-init
loop-family-init c =
    sharing-init (has_family (families_in c.args.others.now)) _ _ c.args.self.now.list c.args.self.now.len c.args.self.now.within c.none-shared.ensures c.as_slice-family-items.ensures
