pub mod PermutingLemmas
pub mod MovesLemmas
pub mod ChangesLemmas
pub mod HandingLemmas
pub mod FirstLemmas
pub mod PostedLemmas
pub mod LastLemmas
