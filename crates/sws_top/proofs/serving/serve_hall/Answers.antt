use Rattle.std.proofs.Common.{List, Option, inr, sym, subst}
use Rattle.sws_handlers.specs.declared.ended.Served.{Served}
use Rattle.sws_log.specs.declared.line.LogLine.{LogLine}
use Rattle.sws_top.specs.declared.faults.TopFault.{TopFault}
use Rattle.sws_top.specs.RanServe.{CanSumUp, EndsBy}
use Rattle.sws_top.proofs.ServeLemmas.{can_sum_up, opened_few, served_by}
use Rattle.sws_top.proofs.serving.serve_hall.Goals as goal

pub write_end-fault-requires : goal.write_end-fault-requires
write_end-fault-requires g c = λ ok.
    let x = g.W.World in
    let ended = c.talk_all-ended.result in
    let few = opened_few x c.args.world c.args.how.now.port c.args.how.now.connections c.open.new.self c.in-Ready.ensures c.requires.connections.1 in
    subst CanSumUp (sym c.deref-2.ensures.value)
    (can_sum_up x g.W.Link.Link _ c.args.how.now.shape (g.K.Talk.contents_of c.args.hall) c.open.new.self c.args.how.now.log ended
    (c.little_counts.ensures.input (g.K.Talk.contents_of c.args.hall)) (c.little_counts.ensures.output (g.K.Talk.contents_of c.args.hall)) c.talk_all-ended.ensures.leaves few ok)

pub returns-clause-served : goal.returns-clause-served
returns-clause-served g c =
    let x = g.W.World in
    let o = g.O.Sink in
    let ended = c.talk_all-ended.result in
    let ends = subst (λ (fault : Option TopFault). EndsBy o c.args.out.now c.write_end-fault.new.out fault ended.log.items ended.served.items ended.verdict) (sym c.of_run.ensures.fault)
    (subst (λ (lines : List LogLine). EndsBy o c.args.out.now c.write_end-fault.new.out c.write_end-fault.result lines ended.served.items ended.verdict) c.deref.ensures.value
    (subst (λ (served : List (Served _)). EndsBy o c.args.out.now c.write_end-fault.new.out c.write_end-fault.result c.deref.result.now served ended.verdict) c.deref-2.ensures.value c.write_end-fault.ensures)) in
    inr (served_by x g.W.Link.Link _ c.args.how.now.shape (g.K.Talk.contents_of c.args.hall) c.open.new.self c.args.how.now.log ended
    c.args.world c.args.how.now.port c.args.how.now.connections c.in-Ready.ensures o c.args.out.now c.write_end-fault.new.out c.of_run.result
    c.talk_all-ended.ensures.leaves c.of_run.ensures.there c.of_run.ensures.gone ends)
