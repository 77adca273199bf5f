-- Where a weave has come to its end, the runs of its workers are in their order.
use Rattle.std.proofs.Common.{◌≡◌, ℕ, ◌<◌, List, [], ◌∷◌, Option, Some, true, length, map, refl, sym, ◌∙◌, ap, subst, arith, IfSome}
use Rattle.std.specs.Prelude.{slice_get, option_map}
use Rattle.std.proofs.lemmas.Option.{same_Some, slice_get-map, slice_get_within}
use Rattle.mely_event.specs.declared.colour.Colour.{Colour}
use Rattle.mely_event.specs.declared.event.Event.{Event}
use Rattle.mely_event.specs.declared.trail.Trail.{Ghosts as TrailWords}
use Rattle.mely_history.specs.Setup.{shard_of, colours_of}
use Rattle.mely_history.specs.Legal.{IsDrainedOf}
use Rattle.mely_note.specs.declared.note.Note.{Note}
use Rattle.mely_note.specs.Notes.{entries_of, home_of}
use Rattle.mely_shard.specs.Shard.{ColourState, IsOwn}
use Rattle.mely_tally.specs.Account.{HandlerRun}
use Rattle.mely_weave.specs.Drains.{AllFree, HistoriesAreDrained}
use Rattle.mely_weave.specs.Lanes.{AreByColour, lane_in, lane_for}
use Rattle.mely_weave.specs.Side.{history_in}
use Rattle.mely_weave.specs.StandsWell.{StandsWell}
use Rattle.mely_weave.specs.Weave.{WeaveState}
use Rattle.mely_weave.proofs.Wholes.GatherLemmas.{get_there}
use Rattle.mely_worker.specs.declared.app.App.{Ghosts as AppWords}
use Rattle.mely_worker.specs.declared.phase.Phase.{Phase}
use Rattle.mely_worker.specs.declared.phase.Phase.TheVariants.{Free, Popped, Picked, Landing, Pushing, Turning}
use Rattle.mely_worker.specs.Phase.{is_free}
use Rattle.mely_worker.specs.Worker.{WorkerState}
use Rattle.mely_chain.specs.Ended.{NoneLost, RanInOrder}
use Rattle.mely_chain.specs.WeaveTold.{WeaveTold, IsTold}
use Rattle.mely_chain.proofs.MergeOrderLemmas.{HasCome, AllCome, in_order, colour_runs}
use Rattle.mely_chain.proofs.WeaveToldLemmas.{shard_there, notes_legal}

-- a worker that is free hunts somewhere
pub free_at : {S P : Type 0} (phase : Phase S P) → is_free phase ≡ true → (place : ℕ) × (phase ≡ Free place)
free_at (Free place) is = (place, refl)
free_at (Popped mark) is = cc
free_at (Picked mark victim) is = cc
free_at (Landing mark) is = cc
free_at (Pushing core mark) is = cc
free_at (Turning turn hand puts) is = cc

if_there : {S : Type 0} (o : Option S) (x : S) (Is : S → Type 0) → o ≡ Some x → IfSome o Is → Is x
if_there o x Is is says = let Holds : Option _ → Type 0 = λ z. IfSome z Is in subst Holds is says

module _ {R S P F : Type 0} (t : TrailWords S F) (fits : F → Colour → Event → Option P → Type 0) (y : AppWords R P S F) (app : R) (given : Colour → Option S) (begin : Colour × Event × Option P) (weave : WeaveState S P) (notes : ℕ → List (Note S P)) (by_core : List (List (HandlerRun S P))) (well : StandsWell t fits weave) (told : WeaveTold t fits y app given (begin ∷ []) weave notes by_core) (free : AllFree weave) (drained : HistoriesAreDrained weave) where
  abbrev pub seen : Colour → List (Note S P)
  seen c = notes (shard_of weave.setup c)

  -- each worker has come to its end
  has_come : ((core : ℕ) (w : WorkerState S P) → slice_get weave.workers core ≡ Some w → w.lost ≡ []) → (n : ℕ) (runs : List (HandlerRun S P)) → slice_get by_core n ≡ Some runs → HasCome t fits y app weave.setup (t.frame_of weave.given) given seen n runs
  has_come none_lost n runs at =
      let within : n < length by_core = slice_get_within by_core n runs at in
      let many = told.cores in
      let workers = well.workers in
      let there = get_there weave.workers n (omega (arith, within, many, workers)) in
      let rests = free_at there.0.phase (free n there.0 there.1) in
      record { worker = there.0; told = told.told n there.0 runs there.1 at; place = rests.0; free = rests.1; none_lost = none_lost n there.0 there.1 }

  all_drained : (c : Colour) → IsDrainedOf (entries_of (seen c)) c
  all_drained c =
      let there = shard_there t fits y app given (begin ∷ []) weave well c in
      subst (λ h. IsDrainedOf h c) (told.shard (shard_of weave.setup c) there.0 there.1).shows.entries (drained (shard_of weave.setup c) there.0 there.1 c)

  module _ (states : List S) (are : AreByColour (λ (lane : ColourState S P). lane.state) weave.setup weave.shards (map (λ state. Some state) states)) where
    abbrev left : Colour → Option S
    left c = slice_get states c.0

    -- the state that is left of a colour is what the last finish brought home
    home : (c : Colour) (first last : S) → given c ≡ Some first → left c ≡ Some last → last ≡ home_of first (seen c) c
    home c first last is end =
        let there = shard_there t fits y app given (begin ∷ []) weave well c in
        let stands = well.shard (shard_of weave.setup c) there.0 there.1 in
        let shard = told.shard (shard_of weave.setup c) there.0 there.1 in
        let some : slice_get (map (λ (s : S). Some s) states) c.0 ≡ Some (Some last) = slice_get-map (λ (s : S). Some s) states c.0 ∙ ap (option_map (λ (s : S). Some s)) end in
        let inside : c.0 < length (map (λ (s : S). Some s) states) = slice_get_within (map (λ (s : S). Some s) states) c.0 (Some last) some in
        let many = are.many in
        let low : c.0 < colours_of weave.setup = omega (arith, inside, many) in
        let own : IsOwn there.0 c = record { there = subst (λ s. c.0 < colours_of s) (sym stands.of_setup) low; here = ap (λ s. shard_of s c) stands.of_setup ∙ sym stands.numbered } in
        let lane = get_there there.0.lanes _ (stands.kept.found c own) in
        let found : lane_for weave.setup weave.shards c ≡ Some lane.0 = ap (λ o. lane_in o c) there.1 ∙ lane.1 in
        let state : lane.0.state ≡ Some last = same_Some lane.0.state (Some last) (sym (are.each c lane.0 low found) ∙ some) in
        if_there lane.0.state last (λ s. s ≡ home_of lane.0.given (seen c) c) state (shard.shows.each c lane.0 own lane.1).home ∙ ap (λ g. home_of g (seen c) c) (shard.first c lane.0 first refl lane.1 is)

    -- what is known of the whole
    pub come : ((core : ℕ) (w : WorkerState S P) → slice_get weave.workers core ≡ Some w → w.lost ≡ []) → ((c : Colour) → c.0 < colours_of weave.setup → (first : S) × (given c ≡ Some first)) → AllCome t fits y app weave.setup (t.frame_of weave.given) given seen begin left by_core
    come none_lost all_given = record {
      cores = told.cores;
      each = has_come none_lost;
      all_given = all_given;
      legal = notes_legal t fits y app given (begin ∷ []) weave notes well told.shard;
      drained = all_drained;
      home = home;
      begun = told.posts;
      no_other = λ c n high. told.no_other (shard_of weave.setup c) n high;
    }

module _ {R S P F : Type 0} (t : TrailWords S F) (fits : F → Colour → Event → Option P → Type 0) (y : AppWords R P S F) (app : R) (given : List S) (begin : Colour × Event × Option P) (weave : WeaveState S P) where
  pub ran_in_order : StandsWell t fits weave → IsTold t fits y app (λ c. slice_get given c.0) (begin ∷ []) weave → AllFree weave → HistoriesAreDrained weave → NoneLost weave → length given ≡ colours_of weave.setup → (left : List S) → AreByColour (λ (lane : ColourState S P). lane.state) weave.setup weave.shards (map (λ state. Some state) left)
      → RanInOrder t fits y app weave begin (λ c. slice_get given c.0) (λ c. slice_get left c.0)
  ran_in_order well (notes, by_core, told, did) free drained none_lost all left are =
      let given_at : Colour → Option S = λ c. slice_get given c.0 in
      let seen : Colour → List (Note S P) = λ c. notes (shard_of weave.setup c) in
      let come = come t fits y app given_at begin weave notes by_core well told free drained left are none_lost (λ c low. get_there given c.0 (omega (arith, low, all))) in
      record {
        notes = seen;
        by_core = by_core;
        by_colour = colour_runs t fits y app weave.setup (t.frame_of weave.given) given_at seen begin (λ c. slice_get left c.0) by_core come;
        noted = λ c.
            let there = shard_there t fits y app given_at (begin ∷ []) weave well c in
            sym (told.shard (shard_of weave.setup c) there.0 there.1).shows.entries ∙ ap history_in (sym there.1);
        in_order = in_order t fits y app weave.setup (t.frame_of weave.given) given_at seen begin (λ c. slice_get left c.0) by_core come;
      }
