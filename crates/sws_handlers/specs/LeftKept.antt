-- How what is found of a run grows, state by state.
use Rattle.std.specs.Prelude.{◌≡◌, ◌+◌, List, ◌++◌, length, map, vec_len, vec_capacity}
use Rattle.sws_steps.specs.declared.talk.Talk.{Ghosts as TalkWords}
use Rattle.sws_handlers.specs.declared.ended.Served.{Served}
use Rattle.sws_handlers.specs.declared.left.Left.{Left}
use Rattle.sws_handlers.specs.Place.{PlaceState}
use Rattle.sws_handlers.specs.RunLeaves.{ShowAll, resting_in, lines_in, talkers}

-- of these states the connections came behind those that were there, and so did the trails; a
-- world that rests is kept, and the lines of the log
pub record KeepsStates {W L T G H : Type 0} (y : TalkWords T L G H)
    (states : List (PlaceState H W T)) (before after : Left W L) : Type 0 where
  pub added : List (Served L)
  pub shows : ShowAll y (talkers states) added
  pub served : after.served.items ≡ before.served.items ++ added
  pub served_len : vec_len after.served ≡ vec_len before.served + length (talkers states)
  pub served_room : vec_capacity after.served ≡ vec_capacity before.served
  pub world : after.world ≡ resting_in before.world states
  pub log : after.log ≡ lines_in before.log states
  pub trails : map (λ trail. trail.items) after.trails.items
      ≡ map (λ trail. trail.items) before.trails.items ++ map (λ place. place.trail) states
  pub trails_len : vec_len after.trails ≡ vec_len before.trails + length states
  pub trails_room : vec_capacity after.trails ≡ vec_capacity before.trails
