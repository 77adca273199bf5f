pub mod Shard
pub mod Invariant
pub mod Replies
