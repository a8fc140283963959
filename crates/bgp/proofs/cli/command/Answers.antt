use Rattle.std.proofs.Common.{map}
use Rattle.bgp.proofs.WideRequests.{is_wide}
use Rattle.bgp.proofs.cli.command.Goals as goal

pub answer-requires : goal.answer-requires
answer-requires g c = is_wide (map (λ w. w.now) c.args.words.now) c.in-Ok-Some.field-0 c.in-Ok-Some.asked c.in-Ok-Some.field-0-is c.in-Ok-Some.ensures.asked
