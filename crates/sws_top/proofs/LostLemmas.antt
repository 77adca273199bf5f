-- No run loses a connection.
use Rattle.std.proofs.Common.{◌≡◌, inl, inr, ℕ, Bool, false, List, Option, Some, None, sym, ap, ◌∙◌}
use Rattle.mely_history.specs.declared.shape.Shape.{Shape}
use Rattle.sws_link.specs.declared.Folder.{Ghosts as FolderWords}
use Rattle.sws_link.specs.declared.Source.{Ghosts as SourceWords}
use Rattle.sws_link.specs.declared.Link.{Ghosts as LinkWords}
use Rattle.sws_link.specs.declared.Sink.{Ghosts as SinkWords}
use Rattle.sws_link.specs.declared.world.World.{Ghosts as WorldWords}
use Rattle.sws_steps.specs.declared.talk.Talk.{Ghosts as TalkWords}
use Rattle.sws_handlers.specs.declared.ended.Ended.{Ended}
use Rattle.sws_site.specs.Site.{SiteState}
use Rattle.sws_gopher.specs.Menus.{Place, place_of}
use Rattle.sws_words.specs.Orders.{Order, answer, replay, serve, bench, check, gopher}
use Rattle.sws_top.specs.declared.outcomes.Outcome.{Outcome}
use Rattle.sws_top.specs.Causes.{HasLost}
use Rattle.sws_top.specs.Hands.{Hands}
use Rattle.sws_top.specs.Ran.{RanAs}
use Rattle.sws_top.specs.RanGopher.{RanGopher, RanGopherServe}
use Rattle.sws_top.specs.RanServe.{IsBack, HasServedPort, RanServe}
use Rattle.sws_top.specs.Ranges.{run_shape}
use Rattle.sws_top.proofs.ServeLemmas.{never_lost}

-- nor does one on the world
module _ {W L O T G H : Type 0} (x : WorldWords W L) (l : LinkWords L) (o : SinkWords O) (y : TalkWords T L G H) (out out_now : O) (world : W) (outcome : Outcome W L)
    (conn : ℕ) (lost : HasLost outcome conn) where
  served_whole : (port connections : ℕ) (shape : Shape) (log : Bool) (hall : H) → HasServedPort x l o y out out_now world outcome port connections shape log hall → ⊥
  served_whole port connections shape log hall served =
      let same : served.ended ≡ lost.0 = (let e : Some served.ended ≡ Some lost.0 = sym served.there ∙ lost.1 in cc) in
      never_lost x l y shape hall served.first log served.ended conn served.leaves (ap (λ (e : Ended W L). e.verdict) same ∙ lost.2)

module _ {F R W L O T G T' G' : Type 0} (f : FolderWords F) (r : SourceWords R) (x : WorldWords W L) (l : LinkWords L) (o : SinkWords O) (y : TalkWords T L G SiteState) (z : TalkWords T' L G' Place)
    (before now : Hands F R O) (world : W) (outcome : Outcome W L) (conn : ℕ) (lost : HasLost outcome conn) where
  not_back : (last : W) → IsBack last outcome → ⊥
  not_back last back = (let other : None ≡ Some lost.0 = sym back.none_ended ∙ lost.1 in cc)

  serve_whole : (path : List ℕ) (port connections : ℕ) (shape : Shape) (date : Option ℕ) (log : Bool)
      → RanServe f x l o y before.folder now.folder before.out now.out world outcome path port connections shape date log → ⊥
  serve_whole path port connections shape date log (inl (cause, is, lacks, untouched)) = not_back world untouched.1
  serve_whole path port connections shape date log (inr (site, loaded, inl unready)) = not_back unready.now_world unready.back
  serve_whole path port connections shape date log (inr (site, loaded, inr served)) = served_whole x l o y before.out now.out world outcome conn lost port connections shape log site served

  gopher_serve_whole : (path host : List ℕ) (port connections : ℕ) (shape : Shape)
      → RanGopherServe f x l o z before.folder now.folder before.out now.out world outcome path host port connections shape → ⊥
  gopher_serve_whole path host port connections shape (inl (cause, is, lacks, untouched)) = not_back world untouched.1
  gopher_serve_whole path host port connections shape (inr (site, loaded, inl (refused, untouched))) = not_back world untouched.1
  gopher_serve_whole path host port connections shape (inr (site, loaded, inr (inl unready))) = not_back unready.now_world unready.back
  gopher_serve_whole path host port connections shape (inr (site, loaded, inr (inr served))) =
      served_whole x l o z before.out now.out world outcome conn lost port connections shape false (place_of site host port) served

  gopher_whole : (path host : List ℕ) (port : ℕ) (connections : Option ℕ) (shape : Shape) (journal : Bool)
      → RanGopher f r x l o z before now world outcome path host port connections shape journal → ⊥
  gopher_whole path host port None shape journal ran = not_back world ran.1
  gopher_whole path host port (Some connections) shape journal ran = gopher_serve_whole path host port connections shape ran.1

  -- what a run of any order leaves says of no connection that it was lost
  pub none_lost : (order : Order) → RanAs f r x l o y z before now world outcome order → ⊥
  none_lost (answer path date) ran = not_back world ran.1
  none_lost (replay path shape date journal schedule log) ran = not_back world ran.1
  none_lost (serve path port connections shape date log) ran = serve_whole path port connections (run_shape shape) date log ran.1
  none_lost (bench connections number shape) ran = not_back world ran.3
  none_lost (check connections shape log) ran = not_back world ran.2
  none_lost (gopher path host port connections shape journal) ran = gopher_whole path host port connections (run_shape shape) journal ran
