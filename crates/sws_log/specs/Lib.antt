pub mod Briefs
pub mod Lines
