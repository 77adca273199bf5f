mod SlotLemmas
mod InitialSlotLemmas
mod EndLemmas
pub mod DrainedLemmas
pub mod TurnLemmas
mod RegisterLemmas
mod FinishLemmas
mod TakeLemmas
mod ExposeLemmas
mod StealLemmas
mod OnceLemmas
