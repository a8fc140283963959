-- The test for which a NOTIFICATION is sent (RFC 4271, section 6; RFC 7606): it has a section of a standard, or is a rule of our own.
use Rattle.std.specs.Prelude.{ℕ, ◌==◌, true, List, Option, None, Some, if◌then◌else◌}
use Rattle.bgp_numbers.specs.declared.error.TheConstants.{INVALID_NETWORK_FIELD, MALFORMED_ATTRIBUTE_LIST}
use Rattle.bgp_frame.specs.declared.fault.HeadFault.{HeadFault}
use Rattle.bgp_frame.specs.declared.kind.Kind.{Kind}
use Rattle.bgp_frame.specs.Frame as frame
use Rattle.bgp_open.specs.declared.context.Context.{Context}
use Rattle.bgp_attr.specs.declared.mp_test.MpTest.{MpTest}
use Rattle.bgp_attr.specs.Prelude.{TlvValue, deciding_test, tlv_at}
use Rattle.bgp_update.specs.Prelude.{Parts, marks_of, parts_of}
use Rattle.bgp_msg.specs.declared.outcome.Outcome.{Outcome}
use Rattle.bgp_msg.specs.Prelude.{out_of}
use Rattle.bgp_fields.specs.declared.cause.Cause.{Cause}
use Rattle.bgp_fields.specs.declared.field.Fault.{Fault}
use Rattle.bgp_fields.specs.declared.field.Span.{Span}
use Rattle.bgp_fields.specs.Places.{first_asking, header_place, reset_place}

-- for an attribute that isn't a second one: the test that decides where it carries routes, else that its type is well-known and not recognised
abbrev pub cause_of_test : Option MpTest → Cause
cause_of_test (Some MpTest.Flags) = Cause.RouteFlags
cause_of_test (Some MpTest.Length) = Cause.RouteLength
cause_of_test (Some MpTest.NextHop) = Cause.NextHop
cause_of_test (Some MpTest.Prefixes) = Cause.RoutePrefix
cause_of_test _ = Cause.WellKnown

-- for the attribute at an offset, by the subcode of the NOTIFICATION: one that isn't whole is cut off
abbrev pub attribute_cause : Context → ℕ → Option TlvValue → Cause
attribute_cause ctx subcode None = Cause.CutRoutes
attribute_cause ctx subcode (Some t) =
    if subcode == MALFORMED_ATTRIBUTE_LIST then Cause.SecondRoutes else cause_of_test (deciding_test ctx t)

-- for the first attribute that calls for a reset; else for a prefix field, or for a withdrawal where nothing is announced
abbrev pub asked_cause : Context → ℕ → Parts → Option ℕ → Cause
asked_cause ctx subcode p (Some at) = attribute_cause ctx subcode (tlv_at p.attributes at)
asked_cause ctx subcode p None = if subcode == INVALID_NETWORK_FIELD then Cause.Prefix else Cause.NothingAnnounced

abbrev pub update_cause : Context → ℕ → Option Parts → Cause
update_cause ctx subcode None = Cause.Lengths
update_cause ctx subcode (Some p) = asked_cause ctx subcode p (first_asking true (marks_of ctx p))

-- for a message, an OPEN or an UPDATE, with a NOTIFICATION of this subcode
abbrev pub answered_cause : Context → Kind → List ℕ → ℕ → Cause
answered_cause ctx Kind.Update body subcode = update_cause ctx subcode (parts_of body)
answered_cause ctx _ body subcode = Cause.Open

abbrev pub cause_in : Context → frame.Message → Outcome → Option Cause
cause_in ctx m (Outcome.Reset n) = Some (answered_cause ctx m.kind m.body n.subcode)
cause_in ctx m _ = None

-- for a whole message, where its outcome is a reset
abbrev pub reset_cause : Context → frame.Message → Option Cause
reset_cause ctx m = cause_in ctx m (out_of ctx m)

-- the octets at fault and the test that they failed
abbrev pub fault_by : Option Span → Option Cause → Option Fault
fault_by (Some s) (Some c) = Some (record { span = s; cause = c })
fault_by _ _ = None

abbrev pub reset_fault : Context → frame.Message → Option Fault
reset_fault ctx m = fault_by (reset_place ctx m) (reset_cause ctx m)

abbrev pub header_fault : List ℕ → HeadFault → Fault
header_fault octets f = record { span = header_place octets f; cause = Cause.Header }
