pub mod PartedLemmas
pub mod SeatsOfRunLemmas
pub mod ConcludedLemmas
pub mod PassedLemmas
pub mod HasRunLemmas
pub mod InitialServedLemmas
pub mod HandedLemmas
