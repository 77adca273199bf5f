use Rattle.std.proofs.Common.{inr}
use Rattle.sws_link.specs.declared.Put.TheVariants as put
use Rattle.mely_picture.proofs.DrawingLemmas.{drawn}
use Rattle.mely_picture.proofs.drawing.write_picture.Goals as goal

pub returns-in-Done-clause-draws : goal.returns-in-Done-clause-draws
returns-in-Done-clause-draws g c = λ setup text kept.
    drawn setup text (g.O.Sink.written c.args.sink.now) (g.O.Sink.written c.write_all.new.self) put.Done c.args.drawer c.deref.result.now c.in-Ok.picture.items kept c.in-Ok.ensures c.deref.ensures.value c.in-Done.ensures.bytes

pub returns-in-Failed-clause-draws : goal.returns-in-Failed-clause-draws
returns-in-Failed-clause-draws g c = λ setup text kept.
    drawn setup text (g.O.Sink.written c.args.sink.now) (g.O.Sink.written c.write_all.new.self) put.Failed c.args.drawer c.deref.result.now c.in-Ok.picture.items kept c.in-Ok.ensures c.deref.ensures.value c.in-Failed.ensures.bytes

pub returns-clause-draws : goal.returns-clause-draws
returns-clause-draws g c = λ setup text kept.
    inr (drawn setup text (g.O.Sink.written c.args.sink.now) (g.O.Sink.written c.write_all.new.self) put.Memory c.args.drawer c.deref.result.now c.in-Ok.picture.items kept c.in-Ok.ensures c.deref.ensures.value c.in-Memory.ensures.bytes)
