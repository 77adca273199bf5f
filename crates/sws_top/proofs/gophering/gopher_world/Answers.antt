use Rattle.std.proofs.Common.{◌≡◌, ℕ, false, inr, subst}
use Rattle.mely_history.specs.declared.shape.Shape.{Shape}
use Rattle.sws_link.specs.declared.Link.{Ghosts as LinkWords}
use Rattle.sws_link.specs.declared.Sink.{Ghosts as SinkWords}
use Rattle.sws_link.specs.declared.world.World.{Ghosts as WorldWords}
use Rattle.sws_steps.specs.declared.talk.Talk.{Ghosts as TalkWords}
use Rattle.sws_gopher.specs.Menus.{Place}
use Rattle.sws_top.specs.declared.outcomes.Outcome.{Outcome}
use Rattle.sws_top.specs.RanServe.{IsServeEnd}
use Rattle.sws_top.proofs.gophering.gopher_world.Goals as goal

-- a run that was served at a place was served at the same one by another name
served_at : {W L O T G : Type 0} (x : WorldWords W L) (l : LinkWords L) (o : SinkWords O) (z : TalkWords T L G Place) (out out_now : O) (world : W) (outcome : Outcome W L) (port connections : ℕ) (shape : Shape) (a b : Place) → a ≡ b → IsServeEnd x l o z out out_now world outcome port connections shape false a → IsServeEnd x l o z out out_now world outcome port connections shape false b
served_at x l o z out out_now world outcome port connections shape a b same ran =
    subst (λ (place : Place). IsServeEnd x l o z out out_now world outcome port connections shape false place) same ran

pub returns-clause-ran : goal.returns-clause-ran
returns-clause-ran g c =
    inr (c.in-Ok.site, c.in-Ok.ensures, inr (served_at g.W.World g.W.Link.Link g.O.Sink _ _ _ _ _ _ _ _ _ _ c.in-Ok-new.ensures c.serve_hall.ensures.served))
