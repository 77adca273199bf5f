pub mod Sending
pub mod Waiting
pub mod KeptState
pub mod Loads
pub mod Running
pub mod Serial
pub mod Received
