-- The UPDATE that withdraws routes: IPv4 in Withdrawn Routes, IPv6 in MP_UNREACH_NLRI.
use Rattle.std.specs.Prelude.{ℕ, List, [], ◌∷◌}
use Rattle.bgp_prefix.specs.Prelude.{PrefixValue}
use Rattle.bgp_attr.specs.declared.attr.Attr.TheVariants as attr
use Rattle.bgp_attr.specs.declared.mp.MpUnreach.{MpUnreach}
use Rattle.bgp_attr.specs.Prelude.{headed, run_octets, unreach_octets}
use Rattle.bgp_attr.specs.declared.mp.MpUnreach.TheVariants as unreach
use Rattle.bgp_update.specs.declared.routes.Routes.{Routes}
use Rattle.bgp_update.specs.Written.{body_octets}

-- an MP_UNREACH_NLRI in its written form, which is the same in every context
abbrev pub whole_unreach : MpUnreach → List ℕ
whole_unreach u = headed (attr.MpUnreach u) (unreach_octets u)

-- the MP_UNREACH_NLRI that withdraws IPv6 routes: none where there are none
abbrev pub gone_octets : List PrefixValue → List ℕ
gone_octets [] = []
gone_octets (route ∷ routes) = whole_unreach (unreach.Ip6 (route ∷ routes))

-- the body of that UPDATE
abbrev pub withdrawal_octets : Routes → List ℕ
withdrawal_octets r = body_octets (run_octets r.ip4) (gone_octets r.ip6) []
