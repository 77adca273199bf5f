mod WordLemmas
mod LineLemmas
mod ReadingLemmas
mod OrderLemmas
mod PlaceLemmas
mod SplitLemmas
mod StandingLemmas
mod PrintLemmas
mod PrintedLemmas
pub mod AnswerLemmas
mod ScriptedLemmas
mod ShortLemmas
mod WorldLemmas
