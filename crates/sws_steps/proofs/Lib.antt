pub mod Inputs
pub mod Steps
pub mod Runs
mod LentLemmas
pub mod Logs
