pub mod ElementsLemmas
pub mod PushesLemmas
pub mod PicksLemmas
pub mod ReportsLemmas
