mod MadeLemmas
pub mod NoteLemmas
pub mod ShowLemmas
pub mod StampLemmas
