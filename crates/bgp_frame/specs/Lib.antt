-- Frames, their headers and streams of them.
pub mod Types
pub mod Kind
pub mod WideKind
pub mod Notification
pub mod ShortNotification
pub mod Head
pub mod Frame
pub mod Content
pub mod Takes
pub mod Framer
pub mod Step
pub mod Pull
pub mod Stream
pub mod Hearing
pub mod Prelude
pub mod steps
