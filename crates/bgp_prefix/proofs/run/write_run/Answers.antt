use Rattle.std.proofs.lemmas.Result.{on_ok_weaker}
use Rattle.bgp_prefix.proofs.LawLemmas.{row_is_run}
use Rattle.bgp_prefix.proofs.RunLemmas.{Row-prefixes}
use Rattle.bgp_prefix.proofs.run.write_run.Goals as goal

pub returns-else-is_err-clause-row : goal.returns-else-is_err-clause-row
returns-else-is_err-clause-row g c = on_ok_weaker c.append_run-written.result (Row-prefixes g.row.W c.args.prefixes.now) c.append_run-written.ensures.valid

pub returns-else-is_err-clause-back : goal.returns-else-is_err-clause-back
returns-else-is_err-clause-back g c =
    on_ok_weaker c.append_run-written.result (λ valid. row_is_run g.row.W c.args.prefixes.now _ (Row-prefixes g.row.W c.args.prefixes.now valid)) c.append_run-written.ensures.valid
