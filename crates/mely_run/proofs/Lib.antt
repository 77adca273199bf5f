pub mod Lists
mod Lines
mod Pieces
pub mod Runs
