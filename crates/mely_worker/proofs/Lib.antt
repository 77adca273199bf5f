mod StepLemmas
pub mod ViewsLemmas
mod RuleLemmas
pub mod GateLemmas
