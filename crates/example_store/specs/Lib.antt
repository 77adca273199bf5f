pub mod Stores
pub mod Served
