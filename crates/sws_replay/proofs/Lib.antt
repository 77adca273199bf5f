mod GoingLemmas
mod InputLemmas
mod WorldLemmas
mod RunLemmas
mod LogLemmas
mod TextLemmas
pub mod AcceptLemmas
