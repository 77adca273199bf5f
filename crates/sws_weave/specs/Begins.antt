-- What a run of the server needs before it begins, and how it comes to rest.
use Rattle.std.specs.Prelude.{◌≡◌, ◌≤◌, ◌<◌, ◌^◌, ℕ, Bool, All, List, None, length, sum_by}
use Rattle.mely_event.specs.HandlerTable.{rows_of}
use Rattle.mely_history.specs.Setup.{first_out_of_range, colours_of, handlers_of}
use Rattle.mely_history.specs.declared.setup.Setup.{Setup}
use Rattle.mely_history.specs.declared.shape.Shape.{Shape}
use Rattle.mely_weave.specs.declared.draining.Drained.{Drained}
use Rattle.mely_weave.specs.declared.draining.Drained.TheVariants as drained
use Rattle.mely_weave.specs.Drains.{AllFree, HistoriesAreDrained}
use Rattle.mely_weave.specs.Weave.{WeaveState}
use Rattle.sws_link.specs.declared.world.World.{Ghosts as WorldWords}
use Rattle.sws_steps.specs.declared.talk.Talk.{Ghosts as TalkWords}
use Rattle.sws_handlers.specs.Initial.{AreInitialPlacesOver}
use Rattle.sws_handlers.specs.Counting.{colours_over}
use Rattle.sws_handlers.specs.Place.{PlaceState}
use Rattle.sws_link.specs.Limits.{conn_limit}
use Rattle.sws_handlers.specs.Tasks.{handler_count}

-- the setup has the server's handlers, and a colour for polling, for accepting, for each link of a
-- world that has begun nothing, and for a log
pub record IsSetFor {W L : Type 0} (x : WorldWords W L) (setup : Setup) (world : W)
    (log : Bool) : Type 0 where
  pub colours : colours_of setup ≡ colours_over (x.tells world).total log
  pub handlers : handler_count ≤ length (rows_of (handlers_of setup))
  pub few : (x.tells world).total ≤ conn_limit
  pub none : (x.tells world).accepted ≡ 0

-- a setup can be made of the shape for a world that has begun nothing: no
-- number is out of its range
pub record IsShapedFor {W L : Type 0} (x : WorldWords W L) (shape : Shape)
    (world : W) (log : Bool) : Type 0 where
  pub in_range : first_out_of_range shape (colours_over (x.tells world).total log) 1 ≡ None
  pub few : (x.tells world).total ≤ conn_limit
  pub none : (x.tells world).accepted ≡ 0

-- the schedule's parts are of so many cores, and their steps can be counted
pub record IsScheduleOf (cores : ℕ) (schedule : List (ℕ × ℕ)) : Type 0 where
  pub cores_in : All (λ part. part.0 < cores) schedule
  pub count : sum_by (λ part. part.1) schedule < 2 ^ 64

-- setup, world and states are those of so many links, before the first event
pub record AreInitialFor {W L T G H : Type 0} (x : WorldWords W L) (y : TalkWords T L G H)
    (setup : Setup) (world : W) (links : ℕ) (log : Bool)
    (states : List (PlaceState H W T)) : Type 0 where
  pub colours : colours_of setup ≡ colours_over links log
  pub handlers : handler_count ≤ length (rows_of (handlers_of setup))
  pub total : (x.tells world).total ≡ links
  pub none : (x.tells world).accepted ≡ 0
  pub first : (hall : H) × AreInitialPlacesOver y world hall links (colours_over links log) states

-- the weave that a run leaves is of its setup, its workers are free, and where nothing was left to
-- do its histories are drained
pub record IsAtRest {S P : Type 0} (setup : Setup) (weave : WeaveState S P)
    (end : Drained) : Type 0 where
  pub of_setup : weave.setup ≡ setup
  pub free : AllFree weave
  pub drained : end ≡ drained.Empty → HistoriesAreDrained weave
