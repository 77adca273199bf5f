pub mod BalanceLemmas
pub mod ConnBalanceLemmas
pub mod DeskBalanceLemmas
pub mod PollBalanceLemmas
pub mod AcceptBalanceLemmas
pub mod LogBalanceLemmas
pub mod ConcludesLemmas
