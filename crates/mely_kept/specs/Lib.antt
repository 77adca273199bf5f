pub mod KeptShard
pub mod Frames
pub mod Calls
pub mod Passing
