-- Notifications (RFC 4271, section 4.5), owned and borrowed.
use Rattle.bgp_frame.specs.declared.notification.Notification.{Notification}
use Rattle.bgp_frame.specs.declared.notification.NotificationView.{NotificationView}

-- the value of a borrowed notification
abbrev pub notification_of_view : NotificationView → Notification
notification_of_view n = record { code = n.code; subcode = n.subcode; info = record { items = n.info.now } }
