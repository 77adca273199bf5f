pub mod SumsLemmas
mod DealtLemmas
mod ByColourLemmas
mod FlowsLemmas
pub mod TallyLemmas
mod PostTalliesLemmas
mod WholeLemmas
pub mod CarryingLemmas
mod ConservedLemmas
mod PartsFittingLemmas
pub mod AlongLemmas
pub mod StepAccountLemmas
pub mod HistoryCountsLemmas
pub mod WeaveAccountLemmas
mod PostAccountLemmas
pub mod AccountLemmas
