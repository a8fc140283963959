use Rattle.bgp_update.proofs.RepeatedMarks.{marked, cut_not_repeated}
use Rattle.bgp_update.proofs.laws.an_attribute_is_repeated_behind_one_of_its_type.Goals as goal

pub returns : goal.returns
returns c = record { whole = λ ctx has_nlri field before later p. marked ctx has_nlri field before later p; cut = cut_not_repeated }
