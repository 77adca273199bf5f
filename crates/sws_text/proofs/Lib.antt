mod SignLemmas
pub mod TextLemmas
pub mod WrittenLemmas
pub mod LengthLemmas
mod ShownLemmas
mod PlainLemmas
pub mod NumberLemmas
pub mod LineLemmas
