pub mod Sending
pub mod Small
