mod CutLemmas
mod MoreLemmas
