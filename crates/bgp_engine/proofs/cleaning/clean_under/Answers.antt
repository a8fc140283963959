use Rattle.bgp_engine.specs.Below.{wide_terms}
use Rattle.bgp_engine.proofs.Reading.{answers_as}
use Rattle.bgp_engine.proofs.Startings.{clean_under, from_same, wordless}
use Rattle.bgp_engine.proofs.cleaning.clean_under.Goals as goal

pub with_words-requires : goal.with_words-requires
with_words-requires g c = wordless _ c.args.hex _ c.start_stream-answer.result.0 c.start_stream-answer.ensures

pub returns : goal.returns
returns g c =
    rw c.with_words.ensures
    (rw (c.new-page.ensures.drops, c.new-page.ensures.limits) at (answers_as _ _ c.args.hex _ c.start_stream-answer.result.0 (from_same _ _ (clean_under (wide_terms c.args.terms.now) c.new-page.result c.new-page.ensures.offers c.new-page.ensures.context)) c.start_stream-answer.ensures))
