pub mod LeftLemmas
pub mod HandingLemmas
pub mod ConcludeLemmas
pub mod LogTurnsLemmas
