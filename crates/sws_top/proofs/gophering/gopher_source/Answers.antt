use Rattle.std.proofs.Common.{◌≡◌, Bool, Option, false, inr, subst}
use Rattle.mely_history.specs.declared.shape.Shape.{Shape}
use Rattle.sws_link.specs.declared.Sink.{Ghosts as SinkWords}
use Rattle.sws_link.specs.declared.Source.{Ghosts as SourceWords}
use Rattle.sws_gopher.specs.Menus.{Place}
use Rattle.sws_top.specs.declared.faults.TopFault.{TopFault}
use Rattle.sws_top.specs.RanGopher.{by_gopher}
use Rattle.sws_top.specs.RanReplay.{RunsScript}
use Rattle.sws_top.proofs.gophering.gopher_source.Goals as goal

-- a script that was run at a place was run at the same one by another name
runs_at : {R O : Type 0} (r : SourceWords R) (o : SinkWords O) (source source_now : R) (out out_now : O) (fault : Option TopFault) (shape : Shape) (journal : Bool) (a b : Place) → a ≡ b → RunsScript r o source source_now out out_now fault (by_gopher a) shape false journal → RunsScript r o source source_now out out_now fault (by_gopher b) shape false journal
runs_at r o source source_now out out_now fault shape journal a b same ran =
    subst (λ (place : Place). RunsScript r o source source_now out out_now fault (by_gopher place) shape false journal) same ran

pub returns : goal.returns
returns g c = inr (c.in-Ok.site, c.in-Ok.ensures, inr (runs_at g.R.Source g.O.Sink _ _ _ _ _ _ _ _ _ c.in-Ok-new.ensures c.replay_script.ensures))
