-- What a run on a weave leaves, once the weave was taken apart.
use Rattle.std.specs.Prelude.{◌≡◌, ◌++◌, Bool, List, [], Option, flat_map, length}
use Rattle.mely_event.specs.declared.colour.Colour.{Colour}
use Rattle.mely_event.specs.declared.event.Event.{Event}
use Rattle.mely_history.specs.declared.entry.Entry.{Entry}
use Rattle.mely_history.specs.declared.setup.Setup.{Setup}
use Rattle.mely_weave.specs.declared.draining.Drained.{Drained}
use Rattle.mely_weave.specs.declared.draining.Drained.TheVariants.{Empty}
use Rattle.mely_tally.specs.Tallies.{carried_by}
use Rattle.sws_link.specs.declared.world.World.{Ghosts as WorldWords}
use Rattle.sws_steps.specs.declared.talk.Talk.{Ghosts as TalkWords}
use Rattle.sws_handlers.specs.declared.load.Load.{Load}
use Rattle.sws_handlers.specs.Counting.{colours_over}
use Rattle.sws_weave.specs.CrewEnds.{CrewEnds}
use Rattle.sws_weave.specs.LogStream.{LogsEndInOrder}
use Rattle.sws_handlers.specs.Place.{PlaceState}
use Rattle.sws_weave.specs.PartsKept.{PartsKept}
use Rattle.sws_weave.specs.RunStands.{Way, RunStands}

module _ {W L T G H : Type 0} (x : WorldWords W L) (y : TalkWords T L G H) (setup : Setup)
    (first : W) (log : Bool) (ended : Drained) (histories : List (List Entry))
    (states : List (PlaceState H W T)) (queued : List (List (Way W L)))
    (lost : List (Colour × Event × Option (Load W L))) where
  -- what the parts keep, the sums of the run over them, and the end of a run that was drained
  pub record RunParts : Type 0 where
    pub kept : PartsKept x y setup first log ended histories states queued
    pub open kept use *
    -- what stands of a run stands of the states, with what is queued and what was refused
    pub stands : RunStands y (x.tells first).total states
        (flat_map (λ events. events) queued ++ carried_by lost)
    -- where the weave was drained and nothing was refused, the run has ended
    pub ends : ended ≡ Empty → lost ≡ [] → CrewEnds y (x.tells first).total log states
    -- there is a list of what is queued for each colour; with the log, each connection's lines came
    -- in order
    pub many_queued : length queued ≡ colours_over (x.tells first).total log
    pub ordered : LogsEndInOrder y (x.tells first).total log states queued lost
