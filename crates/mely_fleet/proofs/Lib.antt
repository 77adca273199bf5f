pub mod FrontLemmas
mod Rows
pub mod SideLemmas
pub mod WorkLemmas
mod WorkedLemmas
pub mod MakesLemmas
mod LossLemmas
pub mod OpeningLemmas
mod ClosingRows
mod ClosingLemmas
mod GatherClosedLemmas
pub mod SeatLemmas
mod CallLemmas
pub mod GateLemmas
pub mod CrossingLemmas
