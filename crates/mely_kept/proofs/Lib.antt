mod GivenLemmas
mod KeepLemmas
mod PointLemmas
pub mod MadeLemmas
