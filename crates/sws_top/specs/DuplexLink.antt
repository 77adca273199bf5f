-- What a link over a source and a sink is as a link.
use Rattle.std.specs.Prelude.{◌≡◌, Option}
use Rattle.sws_link.specs.Counts.{Count}
use Rattle.sws_link.specs.Links.{LinkContents, Way}
use Rattle.sws_link.specs.declared.Source.{Ghosts as SourceWords}
use Rattle.sws_link.specs.declared.Sink.{Ghosts as SinkWords}
use Rattle.sws_top.specs.declared.duplex_link.DuplexLink.{DuplexLink}
use Rattle.sws_top.specs.Duplex.{duplex_tells, both_counts, GoesOn}

module _ {R O : Type 0} (r : SourceWords R) (o : SinkWords O) where
  -- what it tells, by what its source and its sink do
  abbrev pub told_by_duplex : DuplexLink R O r o → Option LinkContents
  told_by_duplex link =
      duplex_tells (r.left link.first_source.now.value) (r.left link.source.now)
      (o.written link.first_out.now.value) (o.written link.out.now)

  -- its faults are theirs
  abbrev pub faults_of_duplex : DuplexLink R O r o → Count
  faults_of_duplex link = both_counts (r.faults link.source.now) (o.faults link.out.now)

  -- it is still over the same two, and keeps which of them failed
  abbrev pub StaysDuplex : DuplexLink R O r o → Option Way → DuplexLink R O r o → Type 0
  StaysDuplex first fault now = (now.source.ghost_name ≡ first.source.ghost_name)
      × (now.out.ghost_name ≡ first.out.ghost_name)
      × (now.first_source.now.value ≡ first.first_source.now.value)
      × (now.first_out.now.value ≡ first.first_out.now.value)
      × GoesOn fault (r.faults first.source.now) (r.faults now.source.now)
      (o.faults first.out.now) (o.faults now.out.now) now.fault
