-- The values of attributes by reference and of borrowed attributes.
use Rattle.bgp_attr.specs.declared.attr.Attr.{Attr}
use Rattle.bgp_attr.specs.declared.attr.Attr.TheVariants as attr
use Rattle.bgp_attr.specs.declared.attr.AttrRef.{AttrRef}
use Rattle.bgp_attr.specs.declared.attr.AttrRef.TheVariants as by_ref
use Rattle.bgp_attr.specs.declared.attr.AttrView.{AttrView}
use Rattle.bgp_attr.specs.declared.attr.AttrView.TheVariants as view
use Rattle.bgp_attr.specs.declared.opaque.Opaque.{Opaque}
use Rattle.bgp_attr.specs.declared.opaque.OpaqueView.{OpaqueView}
use Rattle.bgp_attr.specs.declared.path.As4Path.{As4Path}
use Rattle.bgp_attr.specs.declared.path_view.As4PathView.{As4PathView}
use Rattle.bgp_attr.specs.PathView.{path_value}
use Rattle.bgp_attr.specs.CommunitiesView.{communities_value, large_value}
use Rattle.bgp_attr.specs.MpView.{reach_value, unreach_value}

abbrev pub as4_path_value : As4PathView → As4Path
as4_path_value p = record { partial = p.partial; path = path_value p.path }

abbrev pub opaque_value : OpaqueView → Opaque
opaque_value o = record { kind = o.kind; transitive = o.transitive; partial = o.partial; value = o.value.now }

abbrev pub attr_value : AttrView → Attr
attr_value (view.Origin o) = attr.Origin o
attr_value (view.AsPath p) = attr.AsPath (path_value p)
attr_value (view.NextHop addr) = attr.NextHop addr
attr_value (view.Med n) = attr.Med n
attr_value (view.LocalPref n) = attr.LocalPref n
attr_value view.Atomic = attr.Atomic
attr_value (view.Aggregator a) = attr.Aggregator a
attr_value (view.Communities c) = attr.Communities (communities_value c)
attr_value (view.MpReach r) = attr.MpReach (reach_value r)
attr_value (view.MpUnreach r) = attr.MpUnreach (unreach_value r)
attr_value (view.As4Path p) = attr.As4Path (as4_path_value p)
attr_value (view.As4Aggregator a) = attr.As4Aggregator a
attr_value (view.Large l) = attr.Large (large_value l)
attr_value (view.Opaque o) = attr.Opaque (opaque_value o)

abbrev pub ref_value : AttrRef → Attr
ref_value (by_ref.Origin o) = attr.Origin o
ref_value (by_ref.AsPath p) = attr.AsPath p.now
ref_value (by_ref.NextHop addr) = attr.NextHop addr.now
ref_value (by_ref.Med n) = attr.Med n
ref_value (by_ref.LocalPref n) = attr.LocalPref n
ref_value by_ref.Atomic = attr.Atomic
ref_value (by_ref.Aggregator a) = attr.Aggregator a.now
ref_value (by_ref.Communities c) = attr.Communities c.now
ref_value (by_ref.MpReach r) = attr.MpReach r.now
ref_value (by_ref.MpUnreach r) = attr.MpUnreach r.now
ref_value (by_ref.As4Path p) = attr.As4Path p.now
ref_value (by_ref.As4Aggregator a) = attr.As4Aggregator a.now
ref_value (by_ref.Large l) = attr.Large l.now
ref_value (by_ref.Opaque o) = attr.Opaque o.now
