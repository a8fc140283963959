-- Each kind of field has a number of its own.
use Rattle.ristulva_c.proofs.Below.{◌≡◌, Some, refl, FieldKind}
use Rattle.bgp_fields.specs.declared.kind.FieldKind.TheVariants as field
use Rattle.ristulva_c.specs.Prelude.{number_of_kind, kind_of}

pub kind_back : (k : FieldKind) → kind_of (number_of_kind k) ≡ Some k
unfolding kind_of
kind_back field.Marker = refl
kind_back field.MessageLength = refl
kind_back field.MessageType = refl
kind_back field.Version = refl
kind_back field.MyAs = refl
kind_back field.HoldTime = refl
kind_back field.Identifier = refl
kind_back field.ParametersLength = refl
kind_back field.ParameterType = refl
kind_back field.ParameterLength = refl
kind_back field.CapabilityCode = refl
kind_back field.CapabilityLength = refl
kind_back field.CapabilityValue = refl
kind_back field.Afi = refl
kind_back field.Safi = refl
kind_back field.Reserved = refl
kind_back field.AsNumber = refl
kind_back field.WithdrawnLength = refl
kind_back field.AttributesLength = refl
kind_back field.AttributeFlags = refl
kind_back field.AttributeType = refl
kind_back field.AttributeLength = refl
kind_back field.Origin = refl
kind_back field.SegmentType = refl
kind_back field.SegmentCount = refl
kind_back field.Address = refl
kind_back field.Med = refl
kind_back field.LocalPref = refl
kind_back field.Community = refl
kind_back field.LargeCommunity = refl
kind_back field.NextHopLength = refl
kind_back field.NextHop = refl
kind_back field.LinkLocal = refl
kind_back field.AttributeValue = refl
kind_back field.WithdrawnPrefix = refl
kind_back field.UnreachPrefix4 = refl
kind_back field.UnreachPrefix6 = refl
kind_back field.ReachPrefix4 = refl
kind_back field.ReachPrefix6 = refl
kind_back field.NlriPrefix = refl
kind_back field.ErrorCode = refl
kind_back field.ErrorSubcode = refl
kind_back field.Data = refl
kind_back field.Unread = refl
kind_back field.Subtype = refl
kind_back field.PathIdentifier = refl
