-- The lemmas of the proofs.
mod NumberLemmas
mod SameLemmas
mod CommandLemmas
mod Clap
mod GivenRows
mod TakenLemmas
mod FoundLemmas
mod FlagLemmas
mod CommandRowsLemmas
mod EachCommand
mod FromFoundLemmas
