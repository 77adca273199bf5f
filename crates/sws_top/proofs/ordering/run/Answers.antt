use Rattle.std.proofs.Common.{ℕ, List, Option, refl, sym, subst, string_bytes}
use Rattle.sws_top.specs.declared.faults.TopFault.{TopFault}
use Rattle.sws_top.specs.Faults.{fault_of}
use Rattle.sws_top.specs.Hands.{hands}
use Rattle.sws_top.specs.RanAnswer.{RanAnswer}
use Rattle.sws_top.specs.RanCheck.{RanCheck}
use Rattle.sws_top.specs.RanReplay.{RanReplay}
use Rattle.sws_top.proofs.ordering.run.Goals as goal

pub returns-in-Answer-clause-ran : goal.returns-in-Answer-clause-ran
returns-in-Answer-clause-ran g c =
    let before = hands c.args.folder.now c.args.source.now c.args.out.now in
    let ended = c.answer-ended in
    let now = hands ended.new.folder ended.new.source ended.new.out in
    let how = c.in-Answer in
    let outcome = c.without_run in
    rw c.in-Answer.is (
      subst (λ (fault : Option TopFault). RanAnswer g.F.Folder g.R.Source g.O.Sink before now fault (string_bytes how.path) how.date)
          (sym outcome.ensures.fault)
          (subst (λ (path : List ℕ). RanAnswer g.F.Folder g.R.Source g.O.Sink before now (fault_of ended.result) path how.date)
          c.as_str.ensures.value ended.ensures),
      record { none_ended = outcome.ensures.none_ended; back = outcome.ensures.back },
    )

pub returns-in-Replay-clause-ran : goal.returns-in-Replay-clause-ran
returns-in-Replay-clause-ran g c =
    let before = hands c.args.folder.now c.args.source.now c.args.out.now in
    let ended = c.replay_source-ended in
    let now = hands ended.new.folder ended.new.source ended.new.out in
    let how = c.in-Replay in
    let outcome = c.without_run-in-Replay in
    rw c.in-Replay.is (
      subst (λ (fault : Option TopFault). RanReplay g.F.Folder g.R.Source g.O.Sink before now fault (string_bytes how.path) how.shape how.date how.journal how.schedule how.log)
          (sym outcome.ensures.fault)
          (subst (λ (path : List ℕ). RanReplay g.F.Folder g.R.Source g.O.Sink before now (fault_of ended.result) path how.shape how.date how.journal how.schedule how.log)
          c.as_str-in-Replay.ensures.value ended.ensures),
      record { none_ended = outcome.ensures.none_ended; back = outcome.ensures.back },
    )

pub returns-in-Serve-clause-ran : goal.returns-in-Serve-clause-ran
returns-in-Serve-clause-ran g c = rw c.in-Serve.is (refl, rw c.as_str-in-Serve.ensures.value at c.serve.ensures.ran)

pub returns-in-Check-clause-ran : goal.returns-in-Check-clause-ran
returns-in-Check-clause-ran g c =
    let ended = c.check-ended in
    let how = c.in-Check in
    let outcome = c.without_run-in-Check in
    rw c.in-Check.is (
      refl,
      subst (λ (fault : Option TopFault). RanCheck g.R.Source g.O.Sink c.args.source.now ended.new.source c.args.out.now ended.new.out fault how.connections how.log how.shape)
          (sym outcome.ensures.fault) ended.ensures,
      record { none_ended = outcome.ensures.none_ended; back = outcome.ensures.back },
    )

pub returns-in-Gopher-clause-ran : goal.returns-in-Gopher-clause-ran
returns-in-Gopher-clause-ran g c = rw c.in-Gopher.is (rw (c.as_str-in-Gopher.ensures.value, c.as_str-in-Gopher-2.ensures.value) at c.gopher.ensures.ran)
