pub mod Rising
pub mod Seen
pub mod Steps
pub mod Stream
pub mod InOrder
