pub mod RunKeepsLemmas
pub mod SameStandsLemmas
pub mod WeaveKeepsLemmas
pub mod ThroughLemmas
pub mod StartLemmas
pub mod BeginLemmas
pub mod LogOrderLemmas
