mod ListLemmas
mod WatchLemmas
mod HearingLemmas
pub mod ReadingLemmas
mod WalkLemmas
pub mod LineLemmas
mod StepLemmas
mod JudgeLemmas
mod BeginLemmas
mod OutsideLemmas
mod ReaderLemmas
mod ExtentLemmas
mod ExactLemmas
mod EndLemmas
