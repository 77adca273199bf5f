pub mod ThreadLemmas
pub mod HandledLemmas
