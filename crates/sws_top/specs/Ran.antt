-- What a run did, by its order.
use Rattle.std.specs.Prelude.{◌≡◌, ◌⊎◌, Some}
use Rattle.sws_link.specs.declared.Folder.{Ghosts as FolderWords}
use Rattle.sws_link.specs.declared.Source.{Ghosts as SourceWords}
use Rattle.sws_link.specs.declared.Link.{Ghosts as LinkWords}
use Rattle.sws_link.specs.declared.Sink.{Ghosts as SinkWords}
use Rattle.sws_link.specs.declared.world.World.{Ghosts as WorldWords}
use Rattle.sws_steps.specs.declared.talk.Talk.{Ghosts as TalkWords}
use Rattle.sws_site.specs.Site.{SiteState}
use Rattle.sws_gopher.specs.Menus.{Place}
use Rattle.sws_words.specs.Orders.{Order, answer, replay, serve, bench, check, gopher}
use Rattle.sws_top.specs.declared.faults.TopFault.TheVariants.{Usage, Memory}
use Rattle.sws_top.specs.declared.outcomes.Outcome.{Outcome}
use Rattle.sws_top.specs.Hands.{Hands}
use Rattle.sws_top.specs.Ranges.{run_shape}
use Rattle.sws_top.specs.RanAnswer.{RanAnswer}
use Rattle.sws_top.specs.RanBench.{RanBench}
use Rattle.sws_top.specs.RanCheck.{RanCheck}
use Rattle.sws_top.specs.RanGopher.{RanGopher}
use Rattle.sws_top.specs.RanReplay.{RanReplay}
use Rattle.sws_top.specs.RanServe.{IsBack, RanServe}

-- nothing was touched
pub record IsUntouched {F R O W L : Type 0} (before now : Hands F R O) (world : W)
    (outcome : Outcome W L) : Type 0 where
  pub same : now ≡ before
  pub back : IsBack world outcome

-- the words are no command line, or there was no memory to see that; nothing was touched
pub record IsRefused {F R O W L : Type 0} (before now : Hands F R O) (world : W)
    (outcome : Outcome W L) : Type 0 where
  pub fault : (outcome.fault ≡ Some Usage) ⊎ (outcome.fault ≡ Some Memory)
  pub untouched : IsUntouched before now world outcome

module _ {F R W L O T G T' G' : Type 0} (f : FolderWords F) (r : SourceWords R)
    (x : WorldWords W L) (l : LinkWords L) (o : SinkWords O) (y : TalkWords T L G SiteState)
    (z : TalkWords T' L G' Place) (before now : Hands F R O) (world : W)
    (outcome : Outcome W L) where
  -- the order was run; only `serve`, and `gopher` with connections, ask anything of the world
  abbrev pub RanAs : Order → Type 0
  RanAs (answer path date) = RanAnswer f r o before now outcome.fault path date
      × IsBack world outcome
  RanAs (replay path shape date journal schedule log) =
      RanReplay f r o before now outcome.fault path (run_shape shape) date journal schedule log
      × IsBack world outcome
  RanAs (serve path port connections shape date log) = (now.source ≡ before.source)
      × RanServe f x l o y before.folder now.folder before.out now.out world outcome path port
      connections (run_shape shape) date log
  RanAs (bench connections number shape) =
      (now.folder ≡ before.folder) × (now.source ≡ before.source)
      × RanBench o before.out now.out outcome.fault connections number × IsBack world outcome
  RanAs (check connections shape log) =
      (now.folder ≡ before.folder)
      × RanCheck r o before.source now.source before.out now.out outcome.fault connections
      log (run_shape shape)
      × IsBack world outcome
  RanAs (gopher path host port connections shape journal) =
      RanGopher f r x l o z before now world outcome path host port connections (run_shape shape)
      journal

  -- the order was run, or there was no memory to read it
  abbrev pub Ran : Order → Type 0
  Ran order = ((outcome.fault ≡ Some Memory) × IsUntouched before now world outcome) ⊎ RanAs order
