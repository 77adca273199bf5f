pub mod SidedStepLemmas
pub mod RunLemmas
pub mod DrainLemmas
pub mod WeaveRunLemmas
pub mod CallRunsLemmas
