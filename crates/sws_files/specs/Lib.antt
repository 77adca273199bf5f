pub mod Hidden
pub mod Streams
