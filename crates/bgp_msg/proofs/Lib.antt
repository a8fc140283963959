-- Lemmas on messages and streams.
pub mod Pulls
pub mod Encodings
pub mod Rooms
pub mod Lists
pub mod Decodings
pub mod ReadOpens
pub mod TakenMessages
pub mod Itself
