-- What a run on a weave comes to, of the parts that the weave was taken apart into.
use Rattle.std.specs.Prelude.{◌≡◌, ◌++◌, ◌&&◌, not, ℕ, Bool, true, false, List, [], ◌∷◌, map, flat_map, Option, None, Some, is_some, option_map}
use Rattle.mely_event.specs.declared.event.Event.{Event}
use Rattle.mely_weave.specs.declared.draining.Drained.{Drained}
use Rattle.mely_weave.specs.declared.draining.Drained.TheVariants as drained
use Rattle.mely_weave.specs.declared.parts.WeaveParts.{WeaveParts}
use Rattle.mely_tally.specs.Tallies.{carried_by}
use Rattle.sws_steps.specs.declared.talk.Talk.{Ghosts as TalkWords}
use Rattle.sws_handlers.specs.declared.ended.Served.{Served}
use Rattle.sws_handlers.specs.declared.ended.Ended.{Ended}
use Rattle.sws_handlers.specs.declared.load.WorldLoad.{WorldLoad}
use Rattle.sws_handlers.specs.declared.load.Load.{Load}
use Rattle.sws_handlers.specs.KeptLines.{KeptLinesState, no_lines}
use Rattle.sws_handlers.specs.Place.{PlaceState}
use Rattle.sws_handlers.specs.RunLeaves.{talkers, resting_in, lines_in, lines_kept, ShowAll, VerdictIs}
use Rattle.sws_handlers.specs.Handing.{served_with_loads, world_with_loads}

-- there is none
abbrev pub is_empty : {A : Type 0} → List A → Bool
is_empty [] = true
is_empty (x ∷ xs) = false

-- the weave was drained, and nothing was refused for memory
abbrev pub ran_all : {A : Type 0} → Drained → List A → Bool
ran_all drained.Empty lost = is_empty lost
ran_all drained.Memory lost = false

-- nor was a line of the log lost for want of it
abbrev pub is_whole : {A : Type 0} → Drained → List A → KeptLinesState → Bool
is_whole drained lost lines = ran_all drained lost && not lines.lost

-- how many links a world gave, and 0 where it isn't there
abbrev pub accepted_of : {W : Type 0} → Option (WorldLoad W) → ℕ
accepted_of None = 0
accepted_of (Some held) = held.accepted

-- whether it failed
abbrev pub failed_of : {W : Type 0} → Option (WorldLoad W) → Bool
failed_of None = false
failed_of (Some held) = held.failed

module _ {W L T G H : Type 0} (y : TalkWords T L G H) (total : ℕ) (log : Bool) (how : Drained)
    (parts : WeaveParts (PlaceState H W T) (Load W L)) (ended : Ended W L) where
  -- what is still under way: queued, or refused for memory
  abbrev pub ways_of : List (Event × Option (Load W L))
  ways_of = flat_map (λ events. events) (map (λ events. events.items) parts.queued.items)
      ++ carried_by parts.lost.items

  -- the world that is found: under way, or at rest in a state
  abbrev pub world_found : Option (WorldLoad W)
  world_found = world_with_loads ways_of (resting_in None parts.states.items)

  -- the lines of the log
  abbrev pub lines_found : KeptLinesState
  lines_found = lines_in no_lines parts.states.items

  -- what the run ends with is read off the states and what is under way, and so is the verdict
  pub record IsConcluded : Type 0 where
    -- the connections are those of the states, with the links that are still under way
    pub found : List (Served L)
    pub shows : ShowAll y (talkers parts.states.items) found
    pub served : ended.served.items ≡ served_with_loads ways_of found
    pub world : ended.world ≡ option_map (λ held. held.world) world_found
    pub accepted : ended.accepted ≡ accepted_of world_found
    pub failed : ended.failed ≡ failed_of world_found
    pub histories : ended.histories ≡ parts.histories
    pub trails : map (λ trail. trail.items) ended.trails.items
        ≡ map (λ place. place.trail) parts.states.items
    pub kept : ended.log.items ≡ lines_found.kept
    pub verdict : VerdictIs (lines_kept log ended.log.items) ended.served.items
        (is_whole how parts.lost.items lines_found) total (is_some ended.world) ended.accepted
        ended.failed ended.verdict
