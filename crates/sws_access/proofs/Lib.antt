mod TellingLemmas
mod EscapeLemmas
