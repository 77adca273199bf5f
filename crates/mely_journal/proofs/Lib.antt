pub mod UniqueJournalLemmas
