-- A poll in parts: asking the world, and resuming the first of those that wait where it has failed.
use Rattle.std.specs.Prelude.{◌≡◌, ◌<◌, ℕ, Bool, true, false, List, [], ◌∷◌, Option, Some, None}
use Rattle.mely_worker.specs.Outs.{in_place}
use Rattle.sws_link.specs.declared.world.World.{Ghosts as WorldWords}
use Rattle.sws_link.specs.Worlds.{WorldContents}
use Rattle.sws_handlers.specs.declared.load.Load.{Load}
use Rattle.sws_handlers.specs.declared.load.Load.TheVariants as load
use Rattle.sws_handlers.specs.Handling.{Asked, Asks, is_to_ask, resumed_one}

-- the first of those that wait is let go where the world has failed
abbrev pub LetsGo : Bool → List ℕ → Option ℕ → List ℕ → Type 0
LetsGo true [] first after = (first ≡ None) × (after ≡ [])
LetsGo true (w ∷ ws) first after = (first ≡ Some w) × (after ≡ ws)
LetsGo false waiting first after = (first ≡ None) × (after ≡ waiting)

-- what is known after the world was asked
abbrev pub asked_as : List ℕ → Bool → Bool → Option ℕ → Asked
asked_as waiting last failed ready = record {
  waiting = waiting;
  last = last;
  failed = failed;
  resumed = in_place ready;
}

module _ {W L : Type 0} (x : WorldWords W L) where
  -- the world was asked, and who is resumed was taken off those that wait
  pub record PollsOnce (world : W) (waiting : List ℕ) (last failed : Bool) (resumed : Option ℕ)
      (now : W) (left : List ℕ) (last_now failed_now : Bool) : Type 0 where
    pub asked : Asked
    pub asks : Asks x (is_to_ask waiting last failed) world waiting last failed now asked
    pub left_is : left ≡ (resumed_one asked).waiting
    pub resumed_is : in_place resumed ≡ (resumed_one asked).resumed
    pub last_is : last_now ≡ asked.last
    pub failed_is : failed_now ≡ asked.failed

-- the world of a load may be asked for one more link
abbrev pub MayAccept : {W L : Type 0} → (W → WorldContents) → ℕ → Load W L → Type 0
MayAccept tells total (load.World held) = ((tells held.world).accepted < (tells held.world).total)
    × (held.accepted < total)
MayAccept tells total (load.Link link) = Unit {0}
MayAccept tells total (load.Line line) = Unit {0}
