-- Notifications with little data.
use Rattle.std.specs.Prelude.{ℕ, List, take}
use Rattle.bgp_frame.specs.declared.notification.Notification.{Notification}
use Rattle.bgp_frame.specs.declared.short_notification.ShortNotification.{ShortNotification}

abbrev pub notification_with : ℕ → ℕ → List ℕ → Notification
notification_with code subcode info = record { code = code; subcode = subcode; info = record { items = info } }

-- its value
abbrev pub short_value : ShortNotification → Notification
short_value n = notification_with n.code n.subcode (take n.len n.info)
