pub mod StepLemmas
pub mod LineLemmas
pub mod TurnLineLemmas
pub mod ChainLineLemmas
pub mod WholeStepLemmas
pub mod PostLemmas
