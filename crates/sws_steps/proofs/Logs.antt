pub mod LineLemmas
pub mod LogLemmas
pub mod StepLemmas
pub mod ToldLemmas
pub mod TellingLemmas
pub mod LogRows
