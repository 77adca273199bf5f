pub mod ClapStepLemmas
pub mod ClapWalkLemmas
pub mod ClapGrammarLemmas
pub mod ClapEndLemmas
