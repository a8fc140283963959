-- The judgement that a `FoundAttr` holds.
use Rattle.bgp_frame.specs.Prelude.{notification_of_view}
use Rattle.bgp_attr.specs.declared.judged.Judged.{Judged}
use Rattle.bgp_attr.specs.declared.judged.Judged.TheVariants as judged
use Rattle.bgp_attr.specs.declared.found_attr.FoundAttr.{FoundAttr}
use Rattle.bgp_attr.specs.declared.found_attr.FoundAttr.TheVariants as found
use Rattle.bgp_attr.specs.AttrView.{attr_value}

abbrev pub found_attr_value : FoundAttr → Judged
found_attr_value (found.Keep v) = judged.Keep (attr_value v)
found_attr_value (found.Discard w) = judged.Discard w
found_attr_value (found.Withdraw w) = judged.Withdraw w
found_attr_value (found.Reset n) = judged.Reset (notification_of_view n)
