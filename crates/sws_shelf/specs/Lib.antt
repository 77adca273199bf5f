pub mod Dates
pub mod Sites
