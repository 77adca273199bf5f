pub mod Ends
mod Paths
mod Balances
pub mod Runs
pub mod Model
