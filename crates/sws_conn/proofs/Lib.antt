mod WindowLemmas
mod SearchLemmas
mod LookLemmas
pub mod ResponseLemmas
mod LogLemmas
