mod BurstLemmas
mod LoggedLemmas
