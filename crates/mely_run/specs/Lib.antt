pub mod Corresponds
pub mod Pieces
pub mod WholeRuns
