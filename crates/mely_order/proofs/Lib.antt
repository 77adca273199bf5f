pub mod RisingLemmas
mod LaneLemmas
mod SeenLemmas
pub mod StepLemmas
pub mod OrderLemmas
mod PostLemmas
pub mod RunOrderLemmas
mod EndsLemmas
