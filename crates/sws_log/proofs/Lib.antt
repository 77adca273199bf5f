mod BriefLemmas
mod WithinLemmas
