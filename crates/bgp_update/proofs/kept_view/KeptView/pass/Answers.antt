use Rattle.std.proofs.Common.{Option, ap, ◌∙◌}
use Rattle.bgp_attr.specs.Prelude.{TlvValue}
use Rattle.bgp_update.specs.Prelude.{kept_tlv, kept_with, placed_also}
use Rattle.bgp_update.proofs.Placed.{first_none, none_so_far, placed_none}
use Rattle.bgp_update.proofs.kept_view.KeptView.pass.Goals as goal

pub set-requires-clause-placed : goal.set-requires-clause-placed
set-requires-clause-placed c t is = let none = none_so_far c.args.self.now.field.now c.requires.short in absurd cc

pub returns-clause-same : goal.returns-clause-same
returns-clause-same c =
    let k = c.args.self.now in
    c.set.ensures.value
    ∙ ap (kept_with k) (ap (λ (o : Option TlvValue). placed_also c.args.kind o (kept_tlv k)) (none_so_far k.field.now c.requires.short)
    ∙ placed_none (kept_tlv k) c.args.kind (first_none k.field.now k.places c.args.kind c.requires.first))
