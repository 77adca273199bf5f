pub mod Marks
pub mod Entries
pub mod Lines
pub mod Runs
pub mod Wholes
