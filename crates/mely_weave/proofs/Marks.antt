pub mod CountsLemmas
pub mod MarkLemmas
pub mod HandLemmas
pub mod VictimLemmas
pub mod ReadyMarksLemmas
pub mod ChainingLemmas
