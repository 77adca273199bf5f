pub mod Draws
pub mod BenchSite
pub mod BenchScript
pub mod BenchSummary
