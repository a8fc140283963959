use Rattle.bgp_update.specs.Prelude.{parts_value}
use Rattle.bgp_update.proofs.PartLengths.{parts_within}
use Rattle.bgp_update.proofs.view.UpdateView.judge.Goals as goal

pub judge_parts-requires : goal.judge_parts-requires
judge_parts-requires c = parts_within c.args.body.now (parts_value c.in-Some.parts) c.in-Some.ensures c.requires
