pub mod PathRunsLemmas
pub mod PathTalksLemmas
pub mod PathServerLemmas
