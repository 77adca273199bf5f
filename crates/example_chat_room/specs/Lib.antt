pub mod Shown
pub mod Talks
pub mod LineFaults
pub mod Clients
pub mod Messages
pub mod Parts
pub mod Talked
