pub mod GatherLemmas
pub mod DealLemmas
pub mod MakeLemmas
pub mod SpreadLemmas
pub mod PartsLemmas
pub mod PartsOfStandingLemmas
pub mod InitialStatesLemmas
pub mod BackLemmas
