-- What a lane does over its generations.
use Rattle.std.specs.Prelude.{◌≡◌, List, [], ◌∷◌, ◌++◌, flat_map, length, Option, None, Some, option_map}
use Rattle.sws_link.specs.declared.Link.{Ghosts as LinkWords}
use Rattle.sws_link.specs.declared.world.World.{Ghosts as WorldWords}
use Rattle.sws_site.specs.Site.{SiteState}
use Rattle.sws_steps.specs.declared.talk.Talk.{Ghosts as TalkWords}
use Rattle.sws_lane.specs.Generations.{Generation, AreGenerations, AreTotals, InTurn}
use Rattle.sws_lane.specs.Keepers.{KeeperCall}
use Rattle.sws_lane.specs.Keepers as call
use Rattle.sws_lane.specs.declared.keeper.Keeper.{Ghosts as KeeperWords}
use Rattle.sws_lane.specs.declared.lane.Lane.{Lane}
use Rattle.sws_lane.specs.declared.lane.Terms.{Terms}

-- the calls of the keeper in a generation: it began, out of its site, and how it has ended was heard
abbrev pub calls_in : {W L : Type 0} → Generation W L → List KeeperCall
calls_in one = call.Began one.site ∷ call.Heard one.told ∷ []

-- the last call of all: the keeper has refused a further generation, or, where the world is lost,
-- it wasn't asked
abbrev pub last_call : {W : Type 0} → Option W → List KeeperCall
last_call None = []
last_call (Some world) = call.Refused ∷ []

module _ {W L T U G H K : Type 0} (x : WorldWords W L) (l : LinkWords L)
    (y : TalkWords T L G SiteState) (z : TalkWords U L H SiteState) (k : KeeperWords K)
    (terms : Terms) where
  -- generations were served one after another over the lane's world, with the totals their sums;
  -- the keeper was called in each of them, and then so
  pub record KeepsServing (lane lane_now : Lane W K L) (after : List KeeperCall) : Type 0 where
    pub generations : List (Generation W L)
    pub each : AreGenerations x l y z terms lane.world generations lane_now.world
    pub totals : AreTotals lane.totals generations lane_now.totals
    pub calls : k.calls_of lane_now.keeper
        ≡ option_map (λ calls. calls ++ (flat_map calls_in generations ++ after))
        (k.calls_of lane.keeper)

  -- one was served
  pub record ServesNext (lane lane_now : Lane W K L) : Type 0 where
    pub served : KeepsServing lane lane_now []
    pub one : length served.generations ≡ 1

  -- none was, since the keeper has refused it or the world is lost
  pub record ServesNone (lane lane_now : Lane W K L) : Type 0 where
    pub served : KeepsServing lane lane_now (last_call lane_now.world)
    pub none : served.generations ≡ []

  -- they were, until the keeper refused a further one or the world was lost, and their connections
  -- are in turn those that the world tells to come
  pub record Keeps (lane lane_now : Lane W K L) : Type 0 where
    pub served : KeepsServing lane lane_now (last_call lane_now.world)
    pub in_turn : InTurn x l y lane.world served.generations
