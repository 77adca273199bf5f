mod ServedLemmas
mod StoredLemmas
