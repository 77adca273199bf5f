pub mod CutLemmas
pub mod RequestInLemmas
pub mod SearchLemmas
mod HeadLemmas
mod LineLemmas
mod CuttingLemmas
mod ScanLemmas
mod ViewLemmas
