-- What stands of a run, over a weave.
use Rattle.std.specs.Prelude.{◌≡◌}
use Rattle.mely_weave.specs.Weave.{WeaveState}
use Rattle.mely_tally.specs.Tallies.{states_of, under_way}
use Rattle.sws_link.specs.declared.world.World.{Ghosts as WorldWords}
use Rattle.sws_steps.specs.declared.talk.Talk.{Ghosts as TalkWords}
use Rattle.sws_handlers.specs.declared.load.Load.{Load}
use Rattle.sws_handlers.specs.Place.{PlaceState}
use Rattle.sws_weave.specs.RunStands.{RunStands}

-- over the world that was given at first, of all states and all events under way
pub record RunFact {W L T G H : Type 0} (x : WorldWords W L) (y : TalkWords T L G H) (first : W)
    (weave : WeaveState (PlaceState H W T) (Load W L)) : Type 0 where
  pub stands : RunStands y (x.tells first).total (states_of weave) (under_way weave)
  pub framed : weave.given.first ≡ first
