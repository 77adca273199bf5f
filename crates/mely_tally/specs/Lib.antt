pub mod Tallies
pub mod Tells
pub mod Account
