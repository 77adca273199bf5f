-- What a run leaves in the parts of its weave.
use Rattle.std.proofs.Common.{Bool, true, ◌≡◌, ℕ, zero, suc, ◌+◌, ◌<◌, List, [], ◌∷◌, ◌++◌, Option, Some, length, map, refl, sym, ◌∙◌, ap, subst, arith}
use Rattle.std.proofs.lemmas.List.{length-map}
use Rattle.std.proofs.lemmas.Option.{same_Some}
use Rattle.std.specs.Prelude.{slice_get, flat_map}
use Rattle.std.specs.List.{range_with_len}
use Rattle.mely_event.specs.declared.colour.Colour.{Colour}
use Rattle.mely_event.specs.declared.event.Event.{Event}
use Rattle.mely_event.specs.declared.trail.Trail.{Ghosts as TrailWords}
use Rattle.mely_history.specs.Legal.{AreLegal}
use Rattle.mely_history.specs.Setup.{shape_of, colours_of}
use Rattle.mely_order.specs.Stream.{numbers_of, numbers_put}
use Rattle.sws_weave.specs.LogStream.{LogsEndInOrder, log_stream}
use Rattle.sws_handlers.specs.LogTurns.{turns_of}
use Rattle.sws_handlers.specs.Counting.{colours_over}
use Rattle.mely_history.specs.declared.entry.Entry.{Entry}
use Rattle.mely_history.specs.declared.setup.Setup.{Setup}
use Rattle.mely_shard.specs.Shard.{ShardState}
use Rattle.mely_weave.proofs.Wholes.GatherLemmas.{get_there}
use Rattle.mely_weave.specs.Drains.{HistoriesAreDrained}
use Rattle.mely_weave.specs.Side.{shard_of}
use Rattle.mely_weave.specs.Weave.{WeaveState}
use Rattle.mely_weave.specs.declared.draining.Drained.{Drained}
use Rattle.mely_weave.specs.declared.draining.Drained.TheVariants.{Empty}
use Rattle.mely_tally.specs.Tallies.{carried_by, states_of, under_way}
use Rattle.mely_tally.specs.Tells.{IsTakenApart, PartsFit}
use Rattle.mely_worker.specs.Access.{FitsSetup}
use Rattle.sws_link.specs.declared.Link.{Ghosts as LinkWords}
use Rattle.sws_link.specs.declared.world.World.{Ghosts as WorldWords}
use Rattle.sws_steps.specs.declared.talk.Talk.{Ghosts as TalkWords}
use Rattle.sws_handlers.specs.declared.load.Load.{Load}
use Rattle.sws_handlers.specs.declared.place.Frame.{Frame}
use Rattle.sws_handlers.specs.Place.{PlaceState}
use Rattle.sws_handlers.specs.Loads.{Fit}
use Rattle.sws_weave.specs.RunFits.{RunFits}
use Rattle.sws_weave.specs.RunFact.{RunFact}
use Rattle.sws_weave.specs.RunParts.{RunParts}
use Rattle.sws_handlers.specs.declared.place.Seat.{Seat}
use Rattle.sws_weave.specs.RunStands.{Way, RunStands, at_seat}
use Rattle.sws_weave.proofs.Balances.ConcludesLemmas.{placed_as}
use Rattle.sws_handlers.proofs.Events.WaitingListsLemmas.{each_weaker}
use Rattle.sws_weave.proofs.Runs.SameStandsLemmas.{same_stands}

-- there is a history for each shard
pub as_many_histories : {S P : Type 0} (shards : List (ShardState S P)) (histories : List (List Entry)) (count : ℕ) → histories ≡ map (λ (has : ShardState S P). has.history) shards → length shards ≡ count → length histories ≡ count
as_many_histories {S} {P} shards histories count are many = ap length are ∙ length-map shards (λ (has : ShardState S P). has.history) ∙ many

-- where all lists are empty together, each of them is
pub none_in : {A B : Type 0} (of : A → List B) (all : List A) (k : ℕ) (one : A) → flat_map of all ≡ [] → slice_get all k ≡ Some one → of one ≡ []
none_in of [] k one none at = cc
none_in {B = B} of (first ∷ all) zero one none at = ap of (sym (same_Some first one at)) ∙ first_none (of first) (flat_map of all) none
  where
    first_none : (xs ys : List B) → xs ++ ys ≡ [] → xs ≡ []
    first_none [] ys none = refl
    first_none (x ∷ xs) ys none = cc
none_in {B = B} of (first ∷ all) (suc k) one none at = none_in of all k one (rest_none (of first) (flat_map of all) none) at
  where
    rest_none : (xs ys : List B) → xs ++ ys ≡ [] → ys ≡ []
    rest_none [] ys none = none
    rest_none (x ∷ xs) ys none = cc

module _ {W L T G H : Type 0} (x : WorldWords W L) (y : TalkWords T L G H) (t : TrailWords (PlaceState H W T) (Frame H W)) (setup : Setup) (first : W) (log : Bool) (ended : Drained) (weave : WeaveState (PlaceState H W T) (Load W L))
    (histories : List (List Entry)) (states : List (PlaceState H W T)) (queued : List (List (Way W L))) (lost : List (Colour × Event × Option (Load W L)))
    (apart : IsTakenApart t weave histories states queued lost) (fact : RunFact x y first weave) (of_setup : weave.setup ≡ setup) (colours : colours_of setup ≡ colours_over (x.tells first).total log) (drained_is : ended ≡ Empty → HistoriesAreDrained weave) (many_histories : length histories ≡ (shape_of weave.setup).shards) (many_queued : length queued ≡ colours_of weave.setup) (ordered : LogsEndInOrder y (x.tells first).total log states queued lost)
    (colour_is : (s : PlaceState H W T) → t.colour_of s ≡ s.colour) (trail_is : (s : PlaceState H W T) → t.trail_of s ≡ s.trail) (frame_is : (s : PlaceState H W T) → t.frame_of s ≡ record { hall = s.hall; first = s.first }) where
  abbrev total : ℕ
  total = (x.tells first).total

  abbrev ways : List (Way W L)
  ways = flat_map (λ events. events) queued ++ carried_by lost

  stands : RunStands y total states ways
  stands = same_stands y total (states_of weave) states (under_way weave) ways (λ f. sym (apart.made.states f)) (λ g. sym (apart.made.ways g)) fact.stands

  coloured : (i : ℕ) (place : PlaceState H W T) → slice_get states i ≡ Some place → place.colour.0 ≡ i
  coloured i place at = ap (λ (c : Colour). c.0) (sym (colour_is place) ∙ apart.coloured (record { 0 = i }) place at)

  first_is : (s : PlaceState H W T) → (t.frame_of s).first ≡ s.first
  first_is s = ap (λ (f : Frame H W). f.first) (frame_is s)

  none_left : ended ≡ Empty → lost ≡ [] → ways ≡ []
  none_left empty none = ap (λ (l : List (Way W L)). l ++ carried_by lost) (apart.emptied (drained_is empty)) ∙ ap (λ (l : List (Colour × Event × Option (Load W L))). carried_by l) none

  many_lists : length queued ≡ colours_over total log
  many_lists = many_queued ∙ ap (λ (s : Setup). colours_of s) of_setup ∙ colours

  -- with the log, all lines that a connection gave came, in order
  in_turn : ended ≡ Empty → lost ≡ [] → log ≡ true → (i : ℕ) → i < total → (last place : PlaceState H W T) → slice_get states (total + 2) ≡ Some last → slice_get states (i + 2) ≡ Some place → turns_of i last.lines.came ≡ range_with_len 1 (at_seat (λ (seat : Seat T). (y.view_of seat.talk).lines) place.role)
  in_turn empty none on i under last place at there =
      let count : length queued ≡ total + 2 + 1 = many_lists ∙ ap (λ (b : Bool). colours_over total b) on in
      let queue = get_there queued (total + 2) (omega (arith, count)) in
      let none_queued : queue.0 ≡ [] = none_in (λ (events : List (Way W L)). events) queued (total + 2) queue.0 (apart.emptied (drained_is empty)) queue.1 in
      (ordered on i under).whole refl last place queue.0 at there queue.1
      (ap (λ (events : List (Way W L)). numbers_of (log_stream y total i) events) none_queued) (ap (λ (puts : List (Colour × Event × Option (Load W L))). numbers_put (log_stream y total i) puts) none)

  pub run_parts : RunParts x y setup first log ended histories states queued lost
  run_parts = record {
    kept = record {
      legal = subst (λ (s : Setup). AreLegal s histories) of_setup apart.legal;
      shards = many_histories ∙ ap (λ (s : Setup). (shape_of s).shards) of_setup;
      drained = λ empty. apart.drained (drained_is empty);
      emptied = λ empty. apart.emptied (drained_is empty);
      many = apart.many ∙ ap (λ (s : Setup). colours_of s) of_setup ∙ colours;
      placed = placed_as y total states coloured stands.placed;
      of_world = λ i place at. sym (first_is place) ∙ ap (λ (f : Frame H W). f.first) (apart.framed (record { 0 = i }) place at) ∙ first_is weave.given ∙ fact.framed;
      trailed = λ c place history at there. sym (trail_is place) ∙ apart.trailed c place history at (ap (λ (s : Setup). slice_get histories (shard_of s c)) of_setup ∙ there);
    };
    stands = stands;
    many_queued = many_lists;
    ordered = ordered;
    ends = λ empty none. record { stands = subst (λ (l : List (Way W L)). RunStands y total states l) (none_left empty none) stands; in_turn = in_turn empty none };
  }

-- what is still under way fits, and the states are over the hall
pub run_fits : {W L T H : Type 0} (x : WorldWords W L) (l : LinkWords L) (t : TrailWords (PlaceState H W T) (Frame H W)) (fits : Frame H W → Colour → Event → Option (Load W L) → Type 0) (first : W) (hall : H) (weave : WeaveState (PlaceState H W T) (Load W L))
    (histories : List (List Entry)) (states : List (PlaceState H W T)) (queued : List (List (Way W L))) (lost : List (Colour × Event × Option (Load W L)))
    → IsTakenApart t weave histories states queued lost → PartsFit t fits weave queued lost → weave.given.first ≡ first → weave.given.hall ≡ hall
    → ((s : PlaceState H W T) → t.frame_of s ≡ record { hall = s.hall; first = s.first })
    → ((frame : Frame H W) (c : Colour) (event : Event) (carried : Option (Load W L)) → fits frame c event carried → Fit x l frame.first c event carried)
    → RunFits x l first hall states queued lost
run_fits {W} {L} {T} {H} x l t fits first hall weave histories states queued lost apart fit of_first of_hall frame_is fits_is =
    let given_first : (t.frame_of weave.given).first ≡ first = ap (λ (f : Frame H W). f.first) (frame_is weave.given) ∙ of_first in
    let under : (c : Colour) (event : Event) (carried : Option (Load W L)) → fits (t.frame_of weave.given) c event carried → Fit x l first c event carried = λ c event carried is. subst (λ (w : W). Fit x l w c event carried) given_first (fits_is (t.frame_of weave.given) c event carried is) in
    record {
      of_hall = λ i place at. sym (ap (λ (f : Frame H W). f.hall) (frame_is place)) ∙ ap (λ (f : Frame H W). f.hall) (apart.framed (record { 0 = i }) place at) ∙ ap (λ (f : Frame H W). f.hall) (frame_is weave.given) ∙ of_hall;
      queued = λ c events at. each_weaker (λ (e : Way W L). fits (t.frame_of weave.given) c e.0 e.1) (λ (e : Way W L). Fit x l first c e.0 e.1) (λ e is. under c e.0 e.1 is) events (fit.queued c events at);
      lost = each_weaker (FitsSetup fits weave.setup (t.frame_of weave.given)) (λ put. Fit x l first put.0 put.1 put.2) (λ put is. under put.0 put.1 put.2 is.load) lost fit.lost;
    }
