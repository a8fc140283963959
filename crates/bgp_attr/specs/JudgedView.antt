-- The values of borrowed judgements.
use Rattle.std.specs.Prelude.{Bool, true, false}
use Rattle.bgp_attr.specs.declared.judged.Judged.{Judged}
use Rattle.bgp_attr.specs.declared.judged.Judged.TheVariants as judged
use Rattle.bgp_attr.specs.declared.judged_view.JudgedView.{JudgedView}
use Rattle.bgp_attr.specs.declared.judged_view.JudgedView.TheVariants as view
use Rattle.bgp_attr.specs.AttrView.{attr_value}

abbrev pub judged_value : JudgedView → Judged
judged_value (view.Keep v) = judged.Keep (attr_value v)
judged_value (view.Discard w) = judged.Discard w
judged_value (view.Withdraw w) = judged.Withdraw w
judged_value (view.Reset n) = judged.Reset n

-- only a kept attribute allocates
abbrev pub is_kept : Judged → Bool
is_kept (judged.Keep a) = true
is_kept _ = false
