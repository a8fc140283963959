-- The NOTIFICATION for a ROUTE-REFRESH (RFC 4271, section 6.1; RFC 7313, section 5).
use Rattle.std.specs.Prelude.{ℕ, ◌+◌, List, ◌++◌, length, take}
use Rattle.std.specs.Int.{w16, to_be_bytes}
use Rattle.bgp_numbers.specs.declared.error.TheConstants.{MESSAGE_HEADER, BAD_MESSAGE_LENGTH, ROUTE_REFRESH_MESSAGE, INVALID_REFRESH_LENGTH}
use Rattle.bgp_frame.specs.declared.notification.Notification.{Notification}
use Rattle.bgp_frame.specs.Prelude.{notification_with}
use Rattle.bgp_refresh.specs.declared.fault.RefreshFault.{RefreshFault}
use Rattle.bgp_refresh.specs.declared.fault.RefreshFault.TheVariants as fault
use Rattle.bgp_refresh.specs.Refresh.{refresh_header}

-- the Length, or the whole message as far as a NOTIFICATION of 4096 octets has room for it
abbrev pub refresh_notification : RefreshFault → List ℕ → Notification
refresh_notification fault.Short body = notification_with MESSAGE_HEADER BAD_MESSAGE_LENGTH (to_be_bytes w16 (19 + length body))
refresh_notification fault.Length body =
    notification_with ROUTE_REFRESH_MESSAGE INVALID_REFRESH_LENGTH (take 4075 (refresh_header (19 + length body) ++ body))
