pub mod Guests
pub mod Initial
pub mod Invariant
pub mod Listening
pub mod MemSocket
pub mod MemSocketViews
pub mod Retiring
pub mod Sockets
