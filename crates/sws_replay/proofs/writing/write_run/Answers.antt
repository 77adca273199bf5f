use Rattle.sws_replay.proofs.TextLemmas.{put_none, run_text}
use Rattle.sws_replay.proofs.writing.write_run.Goals as goal

pub returns-in-Ok-clause-text : goal.returns-in-Ok-clause-text
returns-in-Ok-clause-text g c = run_text _ _ c.write_parts.result _ _ _ _ _ _ _ c.args.journal c.deref-in-Ok.ensures.value c.deref-in-Ok-2.ensures.value c.deref-in-Ok-3.ensures.value c.in-Ok.ensures c.write_parts.ensures.text

pub returns-clause-text : goal.returns-clause-text
returns-clause-text g c = put_none (g.O.Sink.written c.args.out.now) _
