-- Notes tell the runs of an initial weave's workers, of which there are none, and go on over posts.
use Rattle.std.proofs.Common.{◌≡◌, ℕ, ◌<◌, List, [], Option, Some, length, map, refl, sym, ◌∙◌, ap, subst, arith}
use Rattle.std.specs.Prelude.{slice_get, option_map}
use Rattle.std.proofs.lemmas.List.{length-map}
use Rattle.std.proofs.lemmas.Option.{same_Some, slice_get-map}
use Rattle.mely_event.specs.declared.colour.Colour.{Colour}
use Rattle.mely_event.specs.declared.event.Event.{Event}
use Rattle.mely_event.specs.declared.trail.Trail.{Ghosts as TrailWords}
use Rattle.mely_history.specs.Setup.{shard_of, colours_of}
use Rattle.mely_history.specs.declared.setup.Setup.{Setup}
use Rattle.mely_note.specs.ShowsNotes.{ShowsLane}
use Rattle.mely_note.proofs.StampLemmas.{rise-none}
use Rattle.mely_shard.specs.Shard.{ShardState, ColourState, lane_at, initial_lane}
use Rattle.mely_tally.specs.Account.{HandlerRun}
use Rattle.mely_weave.specs.Lanes.{lane_for, lane_in}
use Rattle.mely_weave.specs.Making.{AreInitial, IsInitialWeave}
use Rattle.mely_weave.specs.StandsWell.{StandsWell}
use Rattle.mely_weave.specs.Weave.{WeaveState}
use Rattle.mely_weave.proofs.Wholes.GatherLemmas.{get_there}
use Rattle.mely_worker.specs.declared.app.App.{Ghosts as AppWords}
use Rattle.mely_worker.specs.Phase.{is_turning}
use Rattle.mely_worker.specs.Worker.{WorkerState}
use Rattle.mely_chain.specs.Deeds.{CoreDid}
use Rattle.mely_chain.specs.Told.{CoreTold}
use Rattle.mely_chain.specs.WeaveTold.{ShardTold, IsTold}
use Rattle.mely_chain.proofs.CoreLemmas.{told_first}
use Rattle.mely_chain.proofs.DeedLemmas.{did_first}

module _ {R S P F : Type 0} (t : TrailWords S F) (fits : F → Colour → Event → Option P → Type 0) (y : AppWords R P S F) (app : R) (setup : Setup) (states : List S) (weave : WeaveState S P) (from : AreInitial t setup states) (is : IsInitialWeave setup states weave) (well : StandsWell t fits weave) where
  abbrev given : Colour → Option S
  given c = slice_get states c.0

  -- a lane of a shard is that of its colour
  lane_of : (number : ℕ) (has : ShardState S P) → slice_get weave.shards number ≡ Some has → (c : Colour) (lane : ColourState S P) (state : S) → shard_of weave.setup c ≡ number → lane_at has c ≡ Some lane → given c ≡ Some state → lane ≡ initial_lane state
  lane_of number has there c lane state of at known =
      let found : lane_for weave.setup weave.shards c ≡ Some lane = ap (λ k. lane_in (slice_get weave.shards k) c) of ∙ ap (λ o. lane_in o c) there ∙ at in
      same_Some lane (initial_lane state) (sym found ∙ is.lane c state known)

  -- it shows nothing more than was given
  lane_shown : (c : Colour) (lane : ColourState S P) (state : S) → lane ≡ initial_lane state → ShowsLane [] c lane
  lane_shown c lane state same = subst (ShowsLane [] c) (sym same) (record { waits = refl; home = refl })

  shard_first : (number : ℕ) (has : ShardState S P) → slice_get weave.shards number ≡ Some has → ShardTold given weave.setup number has []
  shard_first number has there =
      let stands = well.shard number has there in
      record {
        shows = record {
          entries = is.no_entry number has there;
          each = λ c lane own at.
              let many = from.all in
              let low = own.there in
              let whole : has.setup ≡ setup = stands.of_setup ∙ is.of_setup in
              let within : c.0 < length states = omega (arith, many, subst (λ s. c.0 < colours_of s) whole low) in
              let state = get_there states c.0 within in
              let of : shard_of weave.setup c ≡ number = ap (λ s. shard_of s c) (sym stands.of_setup) ∙ own.here ∙ stands.numbered in
              lane_shown c lane state.0 (lane_of number has there c lane state.0 of at state.1);
        };
        first = λ c lane state of at known. ap (λ (l : ColourState S P). l.given) (lane_of number has there c lane state of at known);
      }

  abbrev none_by_core : List (List (HandlerRun S P))
  none_by_core = map (λ _. []) weave.workers

  -- no worker has run anything
  none_ran : (core : ℕ) (w : WorkerState S P) (runs : List (HandlerRun S P)) → slice_get weave.workers core ≡ Some w → slice_get none_by_core core ≡ Some runs → [] ≡ runs
  none_ran core w runs there at = same_Some [] runs (sym (ap (option_map (λ _. [])) there) ∙ sym (slice_get-map (λ _. []) weave.workers core) ∙ at)

  worker_first : (core : ℕ) (w : WorkerState S P) (runs : List (HandlerRun S P)) → slice_get weave.workers core ≡ Some w → slice_get none_by_core core ≡ Some runs → CoreTold t fits y app weave.setup (t.frame_of weave.given) given core (λ c. []) w runs
  worker_first core w runs there at =
      let fresh = is.worker core w there in
      let none = none_ran core w runs there at in
      subst (λ l. CoreTold t fits y app weave.setup (t.frame_of weave.given) given core (λ c. []) w l) none
      (told_first t fits y app weave.setup (t.frame_of weave.given) given core (λ c. []) w (ap (λ (z : WorkerState S P). is_turning z.phase) fresh) (λ c. refl))

  did_first_of : (core : ℕ) (w : WorkerState S P) (runs : List (HandlerRun S P)) → slice_get weave.workers core ≡ Some w → slice_get none_by_core core ≡ Some runs → CoreDid weave.setup core (λ c. []) w runs
  did_first_of core w runs there at =
      let fresh = is.worker core w there in
      subst (λ l. CoreDid weave.setup core (λ c. []) w l) (none_ran core w runs there at)
      (did_first weave.setup core (λ c. []) w (ap (λ (z : WorkerState S P). is_turning z.phase) fresh) (λ c. refl))

  pub told_initially : IsTold t fits y app given [] weave
  told_initially = (
    λ number. [],
    none_by_core,
    record {
      shard = shard_first;
      cores = length-map weave.workers (λ _. []) ∙ well.workers;
      told = worker_first;
      posts = λ c. refl;
      no_other = λ number n high. refl;
    },
    record { rise = λ number. rise-none; did = did_first_of },
  )
