pub mod Generations
pub mod Keepers
pub mod Keeping
pub mod Terms
pub mod Totals
