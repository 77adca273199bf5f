-- The runs of a weave that has come to its end, with what caused each, and one order of all of them.
use Rattle.std.proofs.Common.{◌≡◌, ℕ, false, List, [], ◌∷◌, Option, Some, length, map, sym, ◌∙◌, ap, arith}
use Rattle.std.specs.Prelude.{slice_get}
use Rattle.std.proofs.lemmas.List.{length-map}
use Rattle.std.proofs.lemmas.Option.{slice_get_past, slice_get_within}
use Rattle.mely_event.specs.declared.colour.Colour.{Colour}
use Rattle.mely_event.specs.declared.event.Event.{Event}
use Rattle.mely_event.specs.declared.trail.Trail.{Ghosts as TrailWords}
use Rattle.mely_history.specs.Legal.{IsLegal}
use Rattle.mely_history.specs.Setup.{colours_of, shard_of}
use Rattle.mely_note.specs.declared.note.Note.{Note}
use Rattle.mely_note.specs.Notes.{entries_of}
use Rattle.mely_shard.specs.Shard.{ColourState}
use Rattle.mely_tally.specs.Account.{HandlerRun}
use Rattle.mely_weave.specs.Drains.{AllFree, HistoriesAreDrained}
use Rattle.mely_weave.specs.Lanes.{AreByColour}
use Rattle.mely_weave.specs.Side.{history_in}
use Rattle.mely_weave.specs.StandsWell.{StandsWell}
use Rattle.mely_weave.specs.Weave.{WeaveState}
use Rattle.mely_weave.proofs.Wholes.GatherLemmas.{get_there}
use Rattle.mely_worker.specs.Phase.{is_turning}
use Rattle.mely_worker.specs.declared.app.App.{Ghosts as AppWords}
use Rattle.mely_chain.specs.Ended.{NoneLost}
use Rattle.mely_chain.specs.WeaveTold.{IsTold, WeaveDid}
use Rattle.mely_chain.proofs.MergeOrderLemmas.{colour_runs, in_order}
use Rattle.mely_chain.proofs.WeaveEndLemmas.{come, free_at}
use Rattle.mely_chain.proofs.WeaveToldLemmas.{notes_legal, shard_there}
use Rattle.mely_cause.specs.Ended.{RanWithCauses}
use Rattle.mely_cause.proofs.CausedOrderLemmas.{caused_by_core}
use Rattle.mely_cause.proofs.SerialOrderLemmas.{one_by_core}
use Rattle.mely_cause.proofs.CoreTimedLemmas.{core_timed}
use Rattle.mely_cause.proofs.TimedRuns.{CoreTimed, TimedRun, timed_of}

module _ {S P : Type 0} (weave : WeaveState S P) (notes : ℕ → List (Note S P)) (by_core : List (List (HandlerRun S P))) (did : WeaveDid weave notes by_core) where
  -- the runs of a core whose worker has come to its end, with their times
  pub timed_core : ((c : Colour) → IsLegal weave.setup (entries_of (notes (shard_of weave.setup c)))) → AllFree weave → NoneLost weave → length weave.workers ≡ length by_core → (n : ℕ) (runs : List (HandlerRun S P)) → slice_get by_core n ≡ Some runs
      → (timed : List (TimedRun S P)) × CoreTimed n (λ c. notes (shard_of weave.setup c)) runs timed
  timed_core legal free none_lost workers n runs at =
      let within = slice_get_within by_core n runs at in
      let there = get_there weave.workers n (omega (arith, within, workers)) in
      let rests = free_at there.0.phase (free n there.0 there.1) in
      let still : is_turning there.0.phase ≡ false = ap (λ phase. is_turning phase) rests.1 in
      let deeds = did.did n there.0 runs there.1 at in
      (timed_of 0 deeds.deeds, core_timed weave.setup n (λ c. notes (shard_of weave.setup c)) there.0 runs legal deeds (none_lost n there.0 there.1) still)

module _ {R S P F : Type 0} (t : TrailWords S F) (fits : F → Colour → Event → Option P → Type 0) (y : AppWords R P S F) (app : R) (given : List S) (begin : Colour × Event × Option P) (weave : WeaveState S P) where
  pub ran_with_causes : StandsWell t fits weave → IsTold t fits y app (λ c. slice_get given c.0) (begin ∷ []) weave → AllFree weave → HistoriesAreDrained weave → NoneLost weave → length given ≡ colours_of weave.setup → (left : List S) → AreByColour (λ (lane : ColourState S P). lane.state) weave.setup weave.shards (map (λ (s : S). Some s) left)
      → RanWithCauses t fits y app weave begin (λ c. slice_get given c.0) (λ c. slice_get left c.0)
  ran_with_causes well (notes, by_core, told, did) free drained none_lost all left are =
      let given_at : Colour → Option S = λ c. slice_get given c.0 in
      let left_at : Colour → Option S = λ c. slice_get left c.0 in
      let seen : Colour → List (Note S P) = λ c. notes (shard_of weave.setup c) in
      let frame = t.frame_of weave.given in
      let come = come t fits y app given_at begin weave notes by_core well told free drained left are none_lost (λ c low. get_there given c.0 (omega (arith, low, all))) in
      let legal = notes_legal t fits y app given_at (begin ∷ []) weave notes well told.shard in
      let caused = caused_by_core t fits y app weave.setup frame given_at seen begin left_at by_core come (timed_core weave notes by_core did legal free none_lost (well.workers ∙ sym told.cores)) (λ c. did.rise (shard_of weave.setup c)) in
      let many = are.many in
      let mapped = length-map {B = Option S} left (λ s. Some s) in
      record {
        order = record {
          notes = seen;
          by_core = by_core;
          by_colour = colour_runs t fits y app weave.setup frame given_at seen begin left_at by_core come;
          noted = λ c.
              let there = shard_there t fits y app given_at (begin ∷ []) weave well c in
              sym (told.shard (shard_of weave.setup c) there.0 there.1).shows.entries ∙ ap history_in (sym there.1);
          in_order = in_order t fits y app weave.setup frame given_at seen begin left_at by_core come;
        };
        caused = caused;
        serial = one_by_core t fits y app weave.setup frame given_at seen begin left_at by_core come caused
            (λ c low. get_there left c.0 (omega (arith, low, many, mapped)))
            (λ c high. slice_get_past left c.0 (omega (arith, high, many, mapped)) ∙ sym (slice_get_past given c.0 (omega (arith, high, all))));
      }
