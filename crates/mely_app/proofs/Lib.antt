mod InitialLemmas
mod RanLemmas
mod LaneLemmas
pub mod PutsLemmas
pub mod ValueLemmas
mod AllPutLemmas
mod InOrderLemmas
mod UnfinishedLemmas
