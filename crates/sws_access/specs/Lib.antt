pub mod Telling
pub mod Escapes
pub mod Visits
