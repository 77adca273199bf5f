pub mod EntryLemmas
pub mod EffectLemmas
pub mod SideLemmas
pub mod LentLemmas
pub mod CallLemmas
