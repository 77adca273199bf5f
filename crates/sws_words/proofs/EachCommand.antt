pub mod AnswerLemmas
pub mod ReplayLemmas
pub mod ServeLemmas
pub mod BenchLemmas
pub mod CheckLemmas
pub mod GopherLemmas
