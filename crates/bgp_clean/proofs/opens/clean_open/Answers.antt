use Rattle.bgp_clean.proofs.Prelude.{open_value}
use Rattle.bgp_clean.proofs.Understood.{understood_good}
use Rattle.bgp_clean.proofs.opens.clean_open.Goals as goal

pub put_open-requires : goal.put_open-requires
put_open-requires g c = understood_good c.args.offers (open_value c.args.view) c.requires
