pub mod PartLemmas
pub mod InputLemmas
pub mod AnswerLemmas
pub mod SinceLemmas
pub mod ServedLemmas
pub mod ExchangingLemmas
pub mod KeptLemmas
