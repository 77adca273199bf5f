pub mod MarkLemmas
pub mod StealLemmas
pub mod LinkLemmas
mod TableLemmas
pub mod EnterLemmas
mod OrderLemmas
mod TableMarksLemmas
mod StealableLemmas
mod RenumberLemmas
