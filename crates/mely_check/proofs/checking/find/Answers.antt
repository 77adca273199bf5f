use Rattle.std.proofs.Common.{◌∙◌, refl, length-take, arith}
use Rattle.std.proofs.Common.{Ok, Err}
use Rattle.mely_check.specs.Hearing.{Walk}
use Rattle.mely_check.proofs.ReaderLemmas.{piece_read, piece_refused, text_ended, first_read, unheard}
use Rattle.mely_check.proofs.EndLemmas.{end_heard}
use Rattle.mely_check.proofs.ExtentLemmas.{reads_piece}
use Rattle.mely_check.proofs.checking.find.Goals as goal

pub returns-in-Err-clause-finds : goal.returns-in-Err-clause-finds
returns-in-Err-clause-finds g c =
    let left = g.R.Source.left in
    piece_refused (λ walk. g.L.Listener.Heard walk c.pieces.listener) c.args.setup.now c.pieces.reader.place.shards (left c.args.source.now) (left c.pieces.source) (left c.read.new.self) c.in-Took.count c.read.new.into c.pieces.reader c.in-Err.fault
    c.pieces.invariant.shards c.pieces.invariant.read c.in-Took.ensures.bytes c.in-Err.ensures.goes

pub returns-in-Err-clause-reads : goal.returns-in-Err-clause-reads
returns-in-Err-clause-reads g c =
    let left = g.R.Source.left in
    let room = c.read.auto.into ∙ c.pieces.invariant.room in
    let within = c.in-Took.ensures.within in
    let long = length-take c.in-Took.count c.read.new.into in
    reads_piece (λ walk. g.L.Listener.Heard walk c.pieces.listener) c.args.setup.now (left c.args.source.now) (left c.pieces.source) (left c.read.new.self) c.in-Took.count c.read.new.into c.pieces.reader c.in-Err.fault
    c.pieces.invariant.read c.in-Took.ensures.bytes c.in-Err.ensures.goes (omega (arith, long, room)) c.in-Err.ensures.from

pub returns-in-Err-end-clause-finds : goal.returns-in-Err-end-clause-finds
returns-in-Err-end-clause-finds g c =
    let left = g.R.Source.left in
    let heard = λ (walk : Walk). g.L.Listener.Heard walk c.pieces.listener in
    text_ended heard c.args.setup.now (left c.args.source.now) (left c.pieces.source) (left c.read.new.self) c.read.new.into c.pieces.reader (Err c.in-Err-end.fault)
    c.pieces.invariant.read c.in-End.ensures.bytes (λ text k. c.in-Err-end.ensures.ends c.args.setup.now text (unheard heard c.args.setup.now text c.pieces.reader k) c.pieces.invariant.shards)

pub returns-in-Ok-end-clause-finds : goal.returns-in-Ok-end-clause-finds
returns-in-Ok-end-clause-finds g c =
    let left = g.R.Source.left in
    let heard = λ (walk : Walk). g.L.Listener.Heard walk c.pieces.listener in
    text_ended heard c.args.setup.now (left c.args.source.now) (left c.pieces.source) (left c.read.new.self) c.read.new.into c.pieces.reader (Ok c.report.result) c.pieces.invariant.read c.in-End.ensures.bytes
    (λ text k. c.in-Ok-end.ensures.ends c.args.setup.now text (unheard heard c.args.setup.now text c.pieces.reader k) c.pieces.invariant.shards c.report.result c.report.ensures.entries c.report.ensures.cores)

pub returns-in-Ok-end-clause-heard : goal.returns-in-Ok-end-clause-heard
returns-in-Ok-end-clause-heard g c =
    let left = g.R.Source.left in
    let heard = λ (walk : Walk). g.L.Listener.Heard walk c.pieces.listener in
    end_heard heard c.args.setup.now (left c.args.source.now) (left c.pieces.source) (left c.read.new.self) c.read.new.into c.pieces.reader c.report.result c.pieces.invariant.read c.in-End.ensures.bytes c.pieces.invariant.shards
    c.in-Ok-end.ensures.whole
    (λ text k. c.in-Ok-end.ensures.ends c.args.setup.now text (unheard heard c.args.setup.now text c.pieces.reader k) c.pieces.invariant.shards c.report.result c.report.ensures.entries c.report.ensures.cores)

pub pieces-init : goal.pieces-init
pieces-init g c = record {
  open_line = c.in-Ok.ensures.open_line;
  shards = c.in-Ok.ensures.shards;
  faults = refl;
  read = first_read (λ walk. g.L.Listener.Heard walk c.args.listener.now) c.args.setup.now (g.R.Source.left c.args.source.now) c.in-Ok.reader c.requires.silent c.in-Ok.ensures.knows;
  frame = refl;
  room = refl;
}

pub pieces-preserved : goal.pieces-preserved
pieces-preserved g c =
    let left = g.R.Source.left in
    let before = c.pieces.invariant in
    record {
      open_line = c.in-Ok-take_all.ensures.open_line;
      shards = c.take_all.ensures.shards ∙ before.shards;
      faults = c.in-Took.ensures.cause.stays (λ same. cc) ∙ before.faults;
      read = piece_read (λ walk. g.L.Listener.Heard walk c.pieces.listener) (λ walk. g.L.Listener.Heard walk c.take_all.new.listener) c.args.setup.now (left c.args.source.now) (left c.pieces.source) (left c.read.new.self) c.in-Took.count c.read.new.into c.pieces.reader before.read c.in-Took.ensures.bytes c.take_all.new.reader (c.in-Ok-take_all.ensures.knows c.args.setup.now);
      frame = c.take_all.ensures.frame ∙ before.frame;
      room = c.read.auto.into ∙ before.room;
    }
