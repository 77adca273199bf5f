use Rattle.mely_journal.proofs.UniqueJournalLemmas.{journal-unique}
use Rattle.mely_journal.proofs.laws.a_journal_has_one_list_of_histories.Goals as goal

pub returns : goal.returns
returns c = journal-unique
