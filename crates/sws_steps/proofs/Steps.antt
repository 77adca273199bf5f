pub mod ReadyLemmas
pub mod SoundLemmas
pub mod HallLemmas
pub mod MeasureLemmas
pub mod RestOutcomeLemmas
