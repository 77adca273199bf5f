pub mod TimedRuns
mod AmongLemmas
mod AscendLemmas
mod DeedCutLemmas
mod DeedTimeLemmas
mod TakenLemmas
pub mod CoreTimedLemmas
mod TimedChainLemmas
mod TimedOrderLemmas
mod CauseLemmas
pub mod CausedLemmas
pub mod CausedOrderLemmas
pub mod CausedDeedsLemmas
mod SerialSortLemmas
mod SerialPutLemmas
mod SerialLaneLemmas
mod SerialChildLemmas
pub mod SerialLemmas
pub mod SerialOrderLemmas
pub mod EndedLemmas
pub mod SerialLawLemmas
