pub mod AnsweredLemmas
pub mod LengthLemmas
pub mod ResponseLemmas
mod RangeLemmas
mod FieldLemmas
mod AnswerLemmas
mod TargetLemmas
mod FolderLemmas
mod DotLemmas
