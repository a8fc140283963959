use Rattle.bgp_engine.proofs.Reading.{answers_as}
use Rattle.bgp_engine.proofs.Startings.{clean_same, wordless}
use Rattle.bgp_engine.proofs.cleaning.clean_within.Goals as goal

pub with_words-requires : goal.with_words-requires
with_words-requires g c = wordless _ c.args.hex _ c.start_stream-answer.result.0 c.start_stream-answer.ensures

pub returns : goal.returns
returns g c =
    rw c.with_words.ensures
    (rw (c.new-page.ensures.context, c.new-page.ensures.drops, c.new-page.ensures.limits) at (answers_as _ _ c.args.hex _ c.start_stream-answer.result.0 (clean_same c.new-page.result c.new-page.ensures.offers) c.start_stream-answer.ensures))
