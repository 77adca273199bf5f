pub mod Runs
pub mod Told
pub mod InOrder
pub mod WeaveTold
pub mod Ended
pub mod Deeds
