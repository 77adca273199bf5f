pub mod Causes
pub mod Orders
pub mod Rounds
pub mod Sums
