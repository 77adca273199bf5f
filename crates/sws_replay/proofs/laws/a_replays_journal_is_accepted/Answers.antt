use Rattle.sws_replay.proofs.AcceptLemmas.{replayed_accepted, scheduled_accepted}
use Rattle.sws_replay.proofs.laws.a_replays_journal_is_accepted.Goals as goal

pub returns-clause-replayed : goal.returns-clause-replayed
returns-clause-replayed c = replayed_accepted

pub returns-clause-scheduled : goal.returns-clause-scheduled
returns-clause-scheduled c = scheduled_accepted
