use Rattle.std.proofs.Common.{Option, sym, subst}
use Rattle.sws_top.specs.declared.faults.TopFault.{TopFault}
use Rattle.sws_top.specs.Hands.{hands}
use Rattle.sws_top.specs.RanGopher.{RanGopherScript}
use Rattle.sws_top.proofs.gophering.gopher.Goals as goal

pub returns-in-None-clause-ran : goal.returns-in-None-clause-ran
returns-in-None-clause-ran g c =
    let before = hands c.args.folder.now c.args.source.now c.args.out.now in
    let ended = c.gopher_source-ended in
    let now = hands ended.new.folder ended.new.source ended.new.out in
    let how = c.args.how.now in
    let outcome = c.without_run in
    rw c.in-None.is (
      subst (λ (fault : Option TopFault). RanGopherScript g.F.Folder g.R.Source g.O.Sink before now fault c.args.path.now how.host.now how.port how.shape how.journal)
          (sym outcome.ensures.fault) ended.ensures,
      record { none_ended = outcome.ensures.none_ended; back = outcome.ensures.back },
    )
