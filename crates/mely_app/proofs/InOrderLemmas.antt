-- Where a run's weave is drained and nothing was refused, its handlers ran in order.
use Rattle.std.proofs.Common.{◌≡◌, ℕ, zero, suc, ◌<◌, true, List, [], ◌∷◌, Option, Some, length, map, refl, sym, ◌∙◌, ap, subst, arith}
use Rattle.std.proofs.lemmas.List.{length-map}
use Rattle.std.proofs.lemmas.Option.{slice_get-map, slice_get_past, slice_get_within, same_Some}
use Rattle.std.specs.Prelude.{Result, Ok, Err, IfOk, IfSome, slice_get, option_map, flat_map}
use Rattle.mely_event.specs.declared.colour.Colour.{Colour}
use Rattle.mely_event.specs.declared.event.Event.{Event}
use Rattle.mely_event.specs.declared.trail.Trail.{Ghosts as TrailWords}
use Rattle.mely_history.specs.declared.entry.Entry.{Entry}
use Rattle.mely_history.specs.declared.setup.Setup.{Setup}
use Rattle.mely_history.specs.Legal.{IsLegal, IsDrainedOf}
use Rattle.mely_history.specs.Setup.{colours_of}
use Rattle.mely_note.specs.declared.note.Note.{Note}
use Rattle.mely_note.specs.Notes.{entries_of, home_of, loaded_of}
use Rattle.mely_shard.specs.Shard.{ShardState, ColourState}
use Rattle.mely_tally.specs.Account.{HandlerRun}
use Rattle.mely_weave.specs.Drains.{AllFree, HistoriesAreDrained}
use Rattle.mely_weave.specs.Lanes.{AreByColour}
use Rattle.mely_weave.specs.Side.{shard_of}
use Rattle.mely_weave.specs.StandsWell.{StandsWell}
use Rattle.mely_weave.specs.Weave.{WeaveState}
use Rattle.mely_weave.specs.WeaveStands.{WeaveStands}
use Rattle.mely_weave.proofs.Wholes.GatherLemmas.{get_there}
use Rattle.mely_worker.specs.declared.app.App.{Ghosts as AppWords}
use Rattle.mely_worker.specs.declared.phase.Phase.{Phase}
use Rattle.mely_worker.specs.declared.phase.Phase.TheVariants.{Free, Popped, Picked, Landing, Pushing, Turning}
use Rattle.mely_worker.specs.Phase.{is_free}
use Rattle.mely_worker.specs.Worker.{WorkerState}
use Rattle.mely_chain.specs.WeaveTold.{IsTold, WeaveTold, WeaveDid}
use Rattle.mely_chain.proofs.MergeChainLemmas.{without_core}
use Rattle.mely_chain.proofs.MergeOrderLemmas.{HasCome, AllCome, colour_runs, in_order}
use Rattle.mely_cause.specs.Causes.{AreCaused}
use Rattle.mely_cause.proofs.CausedOrderLemmas.{caused_by_core}
use Rattle.mely_cause.proofs.SerialOrderLemmas.{one_by_core}
use Rattle.mely_cause.proofs.EndedLemmas.{timed_core}
use Rattle.mely_app.proofs.AllPutLemmas.{both_none}
use Rattle.mely_app.proofs.LaneLemmas.{shard_with, shard_on, has_lane}
use Rattle.mely_app.specs.InOrder.{RanInOrder}

-- a worker that is free hunts somewhere
pub hunts : {S P : Type 0} (phase : Phase S P) → is_free phase ≡ true → (place : ℕ) × (phase ≡ Free place)
hunts (Free place) free = (place, refl)
hunts (Popped mark) free = cc
hunts (Picked mark victim) free = cc
hunts (Landing mark) free = cc
hunts (Pushing core mark) free = cc
hunts (Turning turn hand puts) free = cc

-- where nothing was refused at all, nothing was refused to a worker
none_lost : {S P : Type 0} (ws : List (WorkerState S P)) → flat_map (λ (w : WorkerState S P). w.lost) ws ≡ [] → (n : ℕ) (w : WorkerState S P) → slice_get ws n ≡ Some w → w.lost ≡ []
none_lost [] none n w at = cc
none_lost {S} {P} (v ∷ ws) none zero w at = ap (λ (x : WorkerState S P). x.lost) (sym (same_Some v w at)) ∙ (both_none v.lost (flat_map (λ (x : WorkerState S P). x.lost) ws) none).0
none_lost {S} {P} (v ∷ ws) none (suc n) w at = none_lost ws (both_none v.lost (flat_map (λ (x : WorkerState S P). x.lost) ws) none).1 n w at

module _ {R S P F : Type 0} (t : TrailWords S F) (fits : F → Colour → Event → Option P → Type 0) (y : AppWords R P S F) (app : R) (begin : Colour × Event × Option P) (first : List S) (weave : WeaveState S P) (states : List S)
    (notes : ℕ → List (Note S P)) (by_core : List (List (HandlerRun S P))) (told : WeaveTold t fits y app (λ c. slice_get first c.0) (begin ∷ []) weave notes by_core) (all : length first ≡ colours_of weave.setup)
    (well : StandsWell t fits weave) (stands : WeaveStands t fits weave) (homes : AreByColour (λ (lane : ColourState S P). lane.state) weave.setup weave.shards (map (λ (s : S). Some s) states)) where
  abbrev pub notes_on : Colour → List (Note S P)
  notes_on c = notes (shard_of weave.setup c)

  pub legal : (c : Colour) → IsLegal weave.setup (entries_of (notes_on c))
  legal c =
      let has = shard_on t fits weave well c in
      let here = well.shard (shard_of weave.setup c) has.0 has.1 in
      subst (IsLegal weave.setup) (told.shard (shard_of weave.setup c) has.0 has.1).shows.entries
      (subst (λ s. IsLegal s has.0.history) here.of_setup here.kept.legal)

  -- the state that is handed out is the one that the notes have at home
  pub home : (c : Colour) (from to : S) → slice_get first c.0 ≡ Some from → slice_get states c.0 ≡ Some to → to ≡ home_of from (notes_on c) c
  home c from to is end =
      let within = slice_get_within first c.0 from is in
      let low : c.0 < colours_of weave.setup = omega (arith, within, all) in
      let here = has_lane t fits weave well stands c low in
      let of_shard = told.shard (shard_of weave.setup c) here.has here.there in
      let mine : here.lane.state ≡ Some to = same_Some here.lane.state (Some to) (sym (homes.each c here.lane low here.lane_is) ∙ slice_get-map (λ (s : S). Some s) states c.0 ∙ ap (option_map (λ (s : S). Some s)) end) in
      let is_home : to ≡ home_of here.lane.given (notes_on c) c = subst (λ (o : Option S). IfSome o (λ state. state ≡ home_of here.lane.given (notes_on c) c)) mine (of_shard.shows.each c here.lane here.own here.at).home in
      is_home ∙ ap (λ s. home_of s (notes_on c) c) (of_shard.first c here.lane from refl here.at is)

  -- each history that comes out has the entries of its notes
  pub of_notes : (histories : List (List Entry)) → histories ≡ map (λ (has : ShardState S P). has.history) weave.shards → (number : ℕ) (history : List Entry) → slice_get histories number ≡ Some history → history ≡ entries_of (notes number)
  of_notes histories are number history at =
      let has = shard_with (slice_get weave.shards number) history (sym (slice_get-map (λ (h : ShardState S P). h.history) weave.shards number) ∙ ap (λ (l : List (List Entry)). slice_get l number) (sym are) ∙ at) in
      sym has.2 ∙ (told.shard number has.0 has.1).shows.entries

  -- the worker of a core
  pub worker_of : (n : ℕ) (runs : List (HandlerRun S P)) → slice_get by_core n ≡ Some runs → (w : WorkerState S P) × (slice_get weave.workers n ≡ Some w)
  worker_of n runs at =
      let within = slice_get_within by_core n runs at in
      let cores = told.cores in
      let workers = well.workers in
      get_there weave.workers n (omega (arith, within, cores, workers))

  module _ (free : AllFree weave) (drained : HistoriesAreDrained weave) (none : flat_map (λ (w : WorkerState S P). w.lost) weave.workers ≡ []) where
    rests : (c : Colour) → IsDrainedOf (entries_of (notes_on c)) c
    rests c =
        let has = shard_on t fits weave well c in
        subst (λ h. IsDrainedOf h c) (told.shard (shard_of weave.setup c) has.0 has.1).shows.entries (drained (shard_of weave.setup c) has.0 has.1 c)

    come : (n : ℕ) (runs : List (HandlerRun S P)) → slice_get by_core n ≡ Some runs → HasCome t fits y app weave.setup (t.frame_of weave.given) (λ c. slice_get first c.0) notes_on n runs
    come n runs at =
        let w = worker_of n runs at in
        let place = hunts w.0.phase (free n w.0 w.1) in
        record {
          worker = w.0;
          told = told.told n w.0 runs w.1 at;
          place = place.0;
          free = place.1;
          none_lost = none_lost weave.workers none n w.0 w.1;
        }

    all_come : AllCome t fits y app weave.setup (t.frame_of weave.given) (λ c. slice_get first c.0) notes_on begin (λ c. slice_get states c.0) by_core
    all_come = record {
      cores = told.cores;
      each = come;
      all_given = λ c low. get_there first c.0 (omega (arith, low, all));
      legal = legal;
      drained = rests;
      home = home;
      begun = told.posts;
      no_other = λ c n high. told.no_other (shard_of weave.setup c) n high;
    }

    -- what was registered has its causes
    caused : WeaveDid weave notes by_core → AreCaused begin (λ c. loaded_of (notes_on c) c) (λ c. without_core (colour_runs t fits y app weave.setup (t.frame_of weave.given) (λ c. slice_get first c.0) notes_on begin (λ c. slice_get states c.0) by_core all_come c))
    caused did = caused_by_core t fits y app weave.setup (t.frame_of weave.given) (λ c. slice_get first c.0) notes_on begin (λ c. slice_get states c.0) by_core all_come (timed_core weave notes by_core did legal free (none_lost weave.workers none) (well.workers ∙ sym told.cores)) (λ c. did.rise (shard_of weave.setup c))

    ran : WeaveDid weave notes by_core → (histories : List (List Entry)) → histories ≡ map (λ (has : ShardState S P). has.history) weave.shards → RanInOrder t fits y app weave.setup (t.frame_of weave.given) begin first histories states
    ran did histories are =
        let many = homes.many in
        let mapped = length-map {B = Option S} states (λ s. Some s) in
        record {
          notes = notes;
          by_core = by_core;
          by_colour = colour_runs t fits y app weave.setup (t.frame_of weave.given) (λ c. slice_get first c.0) notes_on begin (λ c. slice_get states c.0) by_core all_come;
          of_histories = of_notes histories are;
          in_order = in_order t fits y app weave.setup (t.frame_of weave.given) (λ c. slice_get first c.0) notes_on begin (λ c. slice_get states c.0) by_core all_come;
          caused = caused did;
          serial = one_by_core t fits y app weave.setup (t.frame_of weave.given) (λ c. slice_get first c.0) notes_on begin (λ c. slice_get states c.0) by_core all_come (caused did)
              (λ c low. get_there states c.0 (omega (arith, low, many, mapped)))
              (λ c high. slice_get_past states c.0 (omega (arith, high, many, mapped)) ∙ sym (slice_get_past first c.0 (omega (arith, high, all))));
        }

pub ran_in_order : {R S P F : Type 0} (t : TrailWords S F) (fits : F → Colour → Event → Option P → Type 0) (y : AppWords R P S F) (app : R) (setup : Setup) (frame : F) (begin : Colour × Event × Option P) (first : List S) (weave : WeaveState S P) (histories : List (List Entry)) (states : List S) (lost : List (Colour × Event × Option P))
    → weave.setup ≡ setup → t.frame_of weave.given ≡ frame → length first ≡ colours_of setup → StandsWell t fits weave → WeaveStands t fits weave → histories ≡ map (λ (has : ShardState S P). has.history) weave.shards
    → AreByColour (λ (lane : ColourState S P). lane.state) weave.setup weave.shards (map (λ (s : S). Some s) states) → AllFree weave → HistoriesAreDrained weave → lost ≡ flat_map (λ (w : WorkerState S P). w.lost) weave.workers → lost ≡ []
    → IsTold t fits y app (λ c. slice_get first c.0) (begin ∷ []) weave → RanInOrder t fits y app setup frame begin first histories states
ran_in_order t fits y app setup frame begin first weave histories states lost of_setup of_frame all well stands are homes free drained refused none (notes, by_core, told, did) =
    let whole = ran t fits y app begin first weave states notes by_core told (all ∙ ap colours_of (sym of_setup)) well stands homes free drained (sym refused ∙ none) did histories are in
    subst (λ f. RanInOrder t fits y app setup f begin first histories states) of_frame (subst (λ s. RanInOrder t fits y app s (t.frame_of weave.given) begin first histories states) of_setup whole)

-- what is so of the states that were made is so of some initial ones
pub if_initial : {A E S : Type 0} (Ran : A → List S → Type 0) (Initial : List S → Type 0) (states : List S) → Initial states → (answer : Result A E) → IfOk answer (λ a. Ran a states) → IfOk answer (λ a. (first : List S) × Initial first × Ran a first)
if_initial Ran Initial states initial (Ok a) so = (states, initial, so)
if_initial Ran Initial states initial (Err e) so = tt
