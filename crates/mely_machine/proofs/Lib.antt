mod Rows
pub mod OneRunLemmas
