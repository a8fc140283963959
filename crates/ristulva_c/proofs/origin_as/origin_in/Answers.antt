use Rattle.ristulva_c.proofs.Below.{None, ap, ◌∙◌, joined_value}
use Rattle.ristulva_c.specs.Prelude.{origin_behind}
use Rattle.ristulva_c.proofs.OriginAs.{origin_is}
use Rattle.ristulva_c.proofs.origin_as.origin_in.Goals as goal

pub path-init : goal.path-init
path-init c = ap (origin_behind None) c.segments-left.ensures ∙ origin_is (joined_value c.args.path.now).segments
