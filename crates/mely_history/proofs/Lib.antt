mod RegistrationLemmas
pub mod ColourAccountLemmas
pub mod LegalLemmas
pub mod LegalAccountLemmas
pub mod BeyondLemmas
pub mod OwingLemmas
pub mod LeftOverLemmas
mod BatchLemmas
mod ColourCountsLemmas
mod JudgeLemmas
mod SetupLemmas
