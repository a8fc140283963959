use Rattle.bgp_paths.specs.Prelude.{numbers_left}
use Rattle.ristulva_c.specs.steps.Paths.{all_counted, counted_numbers}
use Rattle.ristulva_c.proofs.PathCounts.{copied_adds, four_added}
use Rattle.ristulva_c.proofs.path_list.put_all.Goals as goal

pub returns : goal.returns
returns c =
    let runs = c.args.runs.now in
    let n = c.args.counts.now in
    let one = c.put_run-withdrawn in
    let two = c.put_run-unreached in
    let three = c.put_run-reached in
    let four = c.put_run in
    copied_adds (all_counted runs n) c.args.list.now four.new.list four.result (
    four_added (counted_numbers (numbers_left runs.withdrawn) n.withdrawn) (counted_numbers (numbers_left runs.unreached) n.unreached)
    (counted_numbers (numbers_left runs.reached) n.reached) (counted_numbers (numbers_left runs.nlri) n.nlri)
    0 one.result two.result three.result four.result c.args.list.now one.new.list two.new.list three.new.list four.new.list
    one.ensures.adds two.ensures.adds three.ensures.adds four.ensures.adds
    )
