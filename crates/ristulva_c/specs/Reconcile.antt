-- The UPDATE of a session with 2-octet AS numbers, as 4-octet speakers see it.
use Rattle.std.specs.Prelude.{ℕ, List, Option, None, option_map, false, true}
use Rattle.bgp_open.specs.declared.context.Context.{Context}
use Rattle.bgp_update.specs.declared.attrs.Attrs.{Attrs}
use Rattle.bgp_update.specs.declared.update.Update.{Update}
use Rattle.bgp_update.specs.Prelude.{rebuilt, verdict_of, with_as4}
use Rattle.ristulva_c.specs.Encode.{Comes, taken_of, written_of}
use Rattle.ristulva_c.specs.Text.{Writing}

-- the path and the aggregator that AS4_PATH and AS4_AGGREGATOR give replace all four attributes (RFC 6793, section 4.2.3)
abbrev pub rebuilt_attrs : Attrs → Attrs
rebuilt_attrs a = record {
  origin = a.origin;
  as_path = (rebuilt a).path;
  next_hop = a.next_hop;
  med = a.med;
  local_pref = a.local_pref;
  atomic = a.atomic;
  aggregator = (rebuilt a).aggregator;
  communities = a.communities;
  mp_reach = a.mp_reach;
  mp_unreach = a.mp_unreach;
  as4_path = None;
  as4_aggregator = None;
  large = a.large;
  others = a.others;
}

abbrev pub rebuilt_update : Update → Update
rebuilt_update u = record { withdrawn = u.withdrawn; attrs = rebuilt_attrs u.attrs; nlri = u.nlri }

-- its message with 4-octet AS numbers, where it can be written
abbrev pub reconciled_of : Context → Update → Option (List ℕ)
reconciled_of ctx u = written_of (with_as4 true ctx) (rebuilt_update u)

abbrev pub IsReconciled : Context → List ℕ → Writing → Type 0
IsReconciled ctx body w = Comes body (option_map (reconciled_of ctx) (taken_of (verdict_of (with_as4 false ctx) body))) w
