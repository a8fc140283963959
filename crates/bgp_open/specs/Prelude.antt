-- Re-exports the names that other crates and the proofs cite. Declares nothing.
pub use Rattle.bgp_open.specs.Capability.{IsCapability, as4_of, capability_of, code_of, multi_of}
unfoldable pub use Rattle.bgp_open.specs.Capability.{one_capability}
pub use Rattle.bgp_open.specs.CapabilityView.{capability_value}
pub use Rattle.bgp_open.specs.Parameter.{IsParameter}
unfoldable pub use Rattle.bgp_open.specs.Parameter.{one_parameter}
pub use Rattle.bgp_open.specs.Open.{IsHold, IsOpen, as_field_of, hold_of, id_of, is_short_hold, is_wide, is_zero_id, joined, length_of, parameters_of, version_of, zero_id}
pub use Rattle.bgp_open.specs.OpenFault.{FailsAs, HasValueOrFault, IsReadAs, first_fault, open_error, open_notification, open_of, or_fault, reading_of, rest_fault}
unfoldable pub use Rattle.bgp_open.specs.OpenFault.{open_fault}
pub use Rattle.bgp_open.specs.OpenView.{IsViewedAs, open_value}
pub use Rattle.bgp_open.specs.CapabilityIter.{capabilities_left, capabilities_of}
pub use Rattle.bgp_open.specs.Config.{IsAllowed, Settings, config_of}
pub use Rattle.bgp_open.specs.Own.{field_for, offered, own_caps, own_of}
pub use Rattle.bgp_open.specs.Peer.{Said, Told, also_offers, codes_of, first_as4, is_unicast, number_of, offering, plain, said_by, said_of, told_by, told_of}
unfoldable pub use Rattle.bgp_open.specs.Peer.{rising}
pub use Rattle.bgp_open.specs.Agreement.{agreement, agreement_with, context_of, offers_as4, offers_unicast, peer_as_of, peer_notification, same_id}
pub use Rattle.bgp_open.specs.Agreed.{agreed_context, agreed_with, is_one_as}
pub use Rattle.bgp_open.specs.Paths.{agree_on_paths, does, has_paths, has_role, is_path_row, is_role, offers_role, takes_role}
pub use Rattle.bgp_open.specs.Written.{HasRange, HasRanges, body_octets, canonical, capability_octets, is_bad, is_bad_row, is_misnamed, parameter_octets, row_octets}
