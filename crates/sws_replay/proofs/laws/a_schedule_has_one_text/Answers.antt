use Rattle.std.proofs.Common.{List, sym, ap₂, ◌∙◌, ◌++◌, subst}
use Rattle.mely_history.specs.declared.entry.Entry.{Entry}
use Rattle.mely_machine.proofs.OneRunLemmas.{one_run}
use Rattle.sws_log.specs.Lines.{log_text}
use Rattle.mely_journal.specs.Journal.{journal}
use Rattle.sws_replay.specs.Expected.{by_http}
use Rattle.sws_replay.specs.Histories.{AreServed}
use Rattle.sws_replay.specs.Transcripts.{transcript_of}
use Rattle.sws_replay.proofs.LogLemmas.{one_log}
use Rattle.sws_replay.proofs.laws.a_schedule_has_one_text.Goals as goal

pub returns : goal.returns
returns c = λ site shape input log one other first second.
    let histories = one_run _ _ _ _ _ _ _ first.2 second.2 in
    let served = subst (λ (h : List (List Entry)). AreServed (by_http site) shape input.conns log second.0 h) (sym histories) second.4 in
    let lines = one_log (by_http site) shape input.conns log first.0 second.0 first.1 first.3 second.3 first.4 served in
    first.6 ∙ (ap₂ (λ all h. transcript_of (by_http site) input.conns ++ log_text all ++ journal h) lines histories ∙ sym second.6)
