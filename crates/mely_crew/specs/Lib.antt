pub mod Crew
pub mod Settling
