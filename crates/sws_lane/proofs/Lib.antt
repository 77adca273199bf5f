pub mod GenerationLemmas
pub mod OpeningLemmas
pub mod TotalLemmas
pub mod TurnLemmas
