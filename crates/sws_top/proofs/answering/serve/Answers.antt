use Rattle.std.proofs.Common.{◌≡◌, Some, refl, ap, sym, subst, ◌∙◌, Option}
use Rattle.sws_link.specs.Links.{Way}
use Rattle.sws_link.specs.Counts.{HasCause}
use Rattle.sws_conn.specs.Serving.{IsAnswered}
use Rattle.sws_top.specs.declared.faults.TopFault.{TopFault}
use Rattle.sws_top.specs.declared.faults.TopFault.TheVariants.{ReadFault, WriteFault, Memory}
use Rattle.sws_top.specs.Faults.{fault_at_end}
use Rattle.sws_top.specs.Duplex.{duplex_tells, GoesOn}
use Rattle.sws_top.proofs.AnswerLemmas.{nothing_done}
use Rattle.sws_top.proofs.EndLemmas.{KeptAs, never_idle, kept_still, fault_kept, causes, read_kept, answered_over, answers_as}
use Rattle.sws_top.proofs.answering.serve.Goals as goal
use Rattle.sws_top.proofs.answering.serve.Goals.{In-Ok}

-- what the link keeps over the run, by the way in which it failed
abbrev Since : (g : _) (c : In-Ok g) → Option Way → Type 0
Since g c way =
    let before = c.args.link in
    let now = c.in-Ok.link in
    (now.source.ghost_name ≡ before.source.ghost_name) × (now.out.ghost_name ≡ before.out.ghost_name)
    × (now.first_source.now.value ≡ before.first_source.now.value) × (now.first_out.now.value ≡ before.first_out.now.value)
    × GoesOn way (g.R.Source.faults before.source.now) (g.R.Source.faults now.source.now) (g.O.Sink.faults before.out.now) (g.O.Sink.faults now.out.now) now.fault

-- all that was taken has been answered
abbrev Answers : (g : _) (c : In-Ok g) → Type 0
Answers g c =
    let now = c.in-Ok.link in
    IsAnswered c.args.site.now (duplex_tells (g.R.Source.left now.first_source.now.value) (g.R.Source.left now.source.now) (g.O.Sink.written now.first_out.now.value) (g.O.Sink.written now.out.now))

kept : (g : _) (c : In-Ok g) → KeptAs (Since g c) (Answers g c) c.in-Ok.end
kept g c = c.in-Ok.ensures.kept (
  refl,
  refl,
  refl,
  refl,
  (refl, refl),
)

-- whose fault the link kept, by the counts of its two ends
caused : (g : _) (c : In-Ok g) → let before = c.args.link in let now = c.in-Ok.link in let fault = fault_at_end c.in-Ok.end now.fault in
    HasCause (g.R.Source.faults before.source.now) (g.R.Source.faults now.source.now) (fault ≡ Some ReadFault)
    × HasCause (g.O.Sink.faults before.out.now) (g.O.Sink.faults now.out.now) (fault ≡ Some WriteFault)
caused g c =
    let before = c.args.link in
    let now = c.in-Ok.link in
    causes (Since g c) (Answers g c) now.fault (g.R.Source.faults before.source.now) (g.R.Source.faults now.source.now) (g.O.Sink.faults before.out.now) (g.O.Sink.faults now.out.now) (λ way since. since.4) c.in-Ok.end (kept g c)

pub returns-in-Ok-clause-answered : goal.returns-in-Ok-clause-answered
returns-in-Ok-clause-answered g c =
    let ok = (goal.at.returns-in-Ok-clause-answered g c).In-Ok in
    let before = c.args.link in
    let now = c.in-Ok.link in
    let after = c.with_fault.result in
    let end = c.in-Ok.end in
    let left = g.R.Source.left in
    let written = g.O.Sink.written in
    let source = g.R.Source.faults in
    let sink = g.O.Sink.faults in
    answers_as c.args.site.now (left before.source.now) (written before.out.now) (left now.source.now) (left after.source.now)
    (written now.out.now) (written after.out.now) c.fault_at-fault.result after.fault
    (ap left c.with_fault.ensures.source) (ap written c.with_fault.ensures.out) c.with_fault.ensures.fault
    (answered_over c.args.site.now (left before.source.now) (left now.source.now) (written before.out.now) (written now.out.now)
    (left before.first_source.now.value) (written before.first_out.now.value) (left now.first_source.now.value) (written now.first_out.now.value)
    end now.fault c.fault_at-fault.result
    (ap left c.requires.source) (ap written c.requires.out)
    (kept_still (Since g ok) (Answers g ok) (left now.first_source.now.value ≡ left before.first_source.now.value) end (kept g ok) (λ way since. ap left since.2) ∙ ap left c.requires.source)
    (kept_still (Since g ok) (Answers g ok) (written now.first_out.now.value ≡ written before.first_out.now.value) end (kept g ok) (λ way since. ap written since.3) ∙ ap written c.requires.out)
    (never_idle end c.in-Ok.ensures.idle)
    (fault_kept (Since g ok) (Answers g ok) now.fault (source before.source.now) (source now.source.now) (sink before.out.now) (sink now.out.now) (λ way since. since.4) end (kept g ok))
    now.written
    c.in-Ok.ensures.serves
    (λ faulty. read_kept (Since g ok) (Answers g ok) now.fault (source before.source.now) (source now.source.now) (sink before.out.now) (sink now.out.now) (λ way since. since.4) end (kept g ok) faulty)
    c.fault_at-fault.ensures)

pub returns-in-Ok-clause-read_cause : goal.returns-in-Ok-clause-read_cause
returns-in-Ok-clause-read_cause g c =
    let cause = (caused g (goal.at.returns-in-Ok-clause-read_cause g c).In-Ok).0 in
    let ended : c.with_fault.result.fault ≡ fault_at_end c.in-Ok.end c.in-Ok.link.fault = c.with_fault.ensures.fault ∙ c.fault_at-fault.ensures in
    let count = g.R.Source.faults in
    subst (λ now. HasCause (count c.args.link.source.now) now (c.with_fault.result.fault ≡ Some ReadFault)) (ap count (sym c.with_fault.ensures.source))
    (subst (λ (fault : Option TopFault). HasCause (count c.args.link.source.now) (count c.in-Ok.link.source.now) (fault ≡ Some ReadFault)) (sym ended) cause)

pub returns-in-Ok-clause-write_cause : goal.returns-in-Ok-clause-write_cause
returns-in-Ok-clause-write_cause g c =
    let cause = (caused g (goal.at.returns-in-Ok-clause-write_cause g c).In-Ok).1 in
    let ended : c.with_fault.result.fault ≡ fault_at_end c.in-Ok.end c.in-Ok.link.fault = c.with_fault.ensures.fault ∙ c.fault_at-fault.ensures in
    let count = g.O.Sink.faults in
    subst (λ now. HasCause (count c.args.link.out.now) now (c.with_fault.result.fault ≡ Some WriteFault)) (ap count (sym c.with_fault.ensures.out))
    (subst (λ (fault : Option TopFault). HasCause (count c.args.link.out.now) (count c.in-Ok.link.out.now) (fault ≡ Some WriteFault)) (sym ended) cause)

pub returns-in-Err-clause-answered : goal.returns-in-Err-clause-answered
returns-in-Err-clause-answered g c =
    let before = c.args.link in
    let back = c.in-Err.link in
    let after = c.with_fault-in-Err.result in
    let left = g.R.Source.left in
    let written = g.O.Sink.written in
    answers_as c.args.site.now (left before.source.now) (written before.out.now) (left before.source.now) (left after.source.now)
    (written before.out.now) (written after.out.now) (Some Memory) after.fault
    (ap left c.with_fault-in-Err.ensures.source ∙ ap (λ p. left p.source.now) c.in-Err.ensures.refused)
    (ap written c.with_fault-in-Err.ensures.out ∙ ap (λ p. written p.out.now) c.in-Err.ensures.refused)
    c.with_fault-in-Err.ensures.fault
    (nothing_done c.args.site.now (left before.source.now) (written before.out.now) (Some Memory) (λ none. cc))
