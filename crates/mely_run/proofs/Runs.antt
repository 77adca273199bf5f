pub mod StepLemmas
pub mod WantLemmas
pub mod RunLemmas
pub mod StartLemmas
pub mod WholeLemmas
pub mod FrameLemmas
