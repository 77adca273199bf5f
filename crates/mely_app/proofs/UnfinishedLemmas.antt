-- What is known of the parts of a weave that isn't drained, or to which memory was refused.
use Rattle.std.proofs.Common.{◌≡◌, ℕ, suc, ◌<◌, true, List, [], ◌∷◌, ◌++◌, Option, Some, length, take, drop, map, get_or, refl, sym, ◌∙◌, ap, subst, arith, inl, inr}
use Rattle.std.proofs.lemmas.Bool.{cases_lt}
use Rattle.std.proofs.lemmas.List.{length-map, append-nil, drop_all}
use Rattle.std.proofs.lemmas.List.Sums.{sum_by-cons, sum_by-append}
use Rattle.std.proofs.lemmas.Option.{slice_get-map, slice_get_within, slice_get-get_or, get_or_from_slice_get, same_Some}
use Rattle.std.specs.Prelude.{Result, Ok, Err, sum_by, slice_get, option_map, flat_map}
use Rattle.std.specs.declared.snapshot.Snapshot.{Snapshot}
use Rattle.mely_event.specs.declared.colour.Colour.{Colour}
use Rattle.mely_event.specs.declared.event.Event.{Event}
use Rattle.mely_event.specs.declared.trail.Trail.{Ghosts as TrailWords}
use Rattle.mely_history.specs.declared.entry.Entry.{Entry}
use Rattle.mely_history.specs.declared.setup.Setup.{Setup}
use Rattle.mely_history.specs.History.{registered_of, begun_of, ended_of, queued_of}
use Rattle.mely_history.specs.Legal.{IsLegal}
use Rattle.mely_history.specs.Setup.{colours_of}
use Rattle.mely_note.specs.declared.note.Note.{Note}
use Rattle.mely_note.specs.declared.note.Note.TheVariants.{Fin}
use Rattle.mely_note.specs.declared.stamp.Stamp.{Stamp}
use Rattle.mely_note.specs.Notes.{entries_of, loaded_of, waiting_of, home_of, notes_by}
use Rattle.mely_shard.specs.Shard.{ShardState, ColourState, HomeStands}
use Rattle.mely_tally.specs.Account.{HandlerRun, IsAccounted, count_put, count_puts, count_due, puts_left, sum_along}
use Rattle.mely_tally.specs.Tallies.{Carried}
use Rattle.mely_tally.specs.Tells.{IsTakenApart, PartsFit}
use Rattle.mely_weave.specs.Drains.{AllFree}
use Rattle.mely_weave.specs.Lanes.{AreByColour}
use Rattle.mely_weave.specs.Side.{history_for, shard_of}
use Rattle.mely_weave.specs.StandsWell.{StandsWell}
use Rattle.mely_weave.specs.Weave.{WeaveState}
use Rattle.mely_weave.specs.WeaveStands.{WeaveStands}
use Rattle.mely_weave.proofs.Wholes.GatherLemmas.{get_there}
use Rattle.mely_worker.specs.declared.app.App.{Ghosts as AppWords}
use Rattle.mely_worker.specs.Phase.{is_free}
use Rattle.mely_worker.specs.Worker.{WorkerState}
use Rattle.mely_chain.specs.Runs.{RunThrough, runs_on, puts_on, puts_of}
use Rattle.mely_chain.specs.Told.{TellOut, finished_by, turn_of}
use Rattle.mely_chain.specs.InOrder.{made_by}
use Rattle.mely_chain.specs.WeaveTold.{IsTold, WeaveTold}
use Rattle.mely_chain.proofs.MergeChainLemmas.{chain_of, without_core}
use Rattle.mely_chain.proofs.MergeThroughLemmas.{through}
use Rattle.mely_chain.proofs.MergeMadeLemmas.{made_all, finishers_below, by_cores}
use Rattle.mely_chain.proofs.MergeOrderLemmas.{none_beyond}
use Rattle.mely_crew.specs.Crew.{IsRegistered}
use Rattle.mely_app.proofs.AllPutLemmas.{free_left, left_none, shard_history}
use Rattle.mely_app.proofs.InOrderLemmas.{hunts, legal, home, of_notes, worker_of}
use Rattle.mely_app.proofs.LaneLemmas.{has_lane}
use Rattle.mely_app.proofs.RanLemmas.{registered_in}
use Rattle.mely_app.specs.declared.run_error.RunError.{RunError}
use Rattle.mely_app.specs.declared.run_error.RunError.TheVariants.{NotStarted, CutShort}
use Rattle.mely_app.specs.declared.run_error.Unfinished.{Unfinished}
use Rattle.mely_app.specs.Unfinished.{IfCutShort, RanInPart, HasPutInPart, RanInOrderSoFar}

-- ---- what the histories say

module _ {S P F : Type 0} (t : TrailWords S F) (fits : F → Colour → Event → Option P → Type 0) (weave : WeaveState S P) (histories : List (List Entry)) (states : List S)
    (well : StandsWell t fits weave) (stands : WeaveStands t fits weave) (are : histories ≡ map (λ (has : ShardState S P). has.history) weave.shards)
    (homes : AreByColour (λ (lane : ColourState S P). lane.state) weave.setup weave.shards (map (λ (s : S). Some s) states)) where
  -- the history of a colour that comes out is that of its shard
  same_history : (c : Colour) (history : List Entry) → slice_get histories (shard_of weave.setup c) ≡ Some history → (has : ShardState S P) → slice_get weave.shards (shard_of weave.setup c) ≡ Some has → has.history ≡ history
  same_history c history at has there =
      same_Some has.history history
      (sym (ap (λ (l : List (List Entry)). slice_get l (shard_of weave.setup c)) are ∙ slice_get-map (λ (h : ShardState S P). h.history) weave.shards (shard_of weave.setup c) ∙ ap (option_map (λ (h : ShardState S P). h.history)) there) ∙ at)

  -- a colour rests whose state is at home
  rests : (c : Colour) (history : List Entry) → slice_get histories (shard_of weave.setup c) ≡ Some history → c.0 < colours_of weave.setup → begun_of history c ≡ ended_of history c
  rests c history at low =
      let here = has_lane t fits weave well stands c low in
      let many = sym (length-map states (λ (s : S). Some s)) ∙ homes.many in
      let state = get_there states c.0 (omega (arith, low, many)) in
      let mine : here.lane.state ≡ Some state.0 = same_Some here.lane.state (Some state.0) (sym (homes.each c here.lane low here.lane_is) ∙ slice_get-map (λ (s : S). Some s) states c.0 ∙ ap (option_map (λ (s : S). Some s)) state.1) in
      let stood : HomeStands t here.has.history c here.lane.given (Some state.0) = subst (λ o. HomeStands t here.has.history c here.lane.given o) mine ((well.shard (shard_of weave.setup c) here.has here.there).kept.each c here.lane here.own here.at).state in
      subst (λ h. begun_of h c ≡ ended_of h c) (same_history c history at here.has here.there) stood.0

  module _ (waiting : List (List (Carried P))) (waits : AreByColour (λ (lane : ColourState S P). lane.events) weave.setup weave.shards waiting) where
    queued : (c : Colour) (events : List (Carried P)) (history : List Entry) → slice_get waiting c.0 ≡ Some events → slice_get histories (shard_of weave.setup c) ≡ Some history → map (λ e. e.0) events ≡ queued_of history c
    queued c events history at there =
        let within = slice_get_within waiting c.0 events at in
        let many = waits.many in
        let low : c.0 < colours_of weave.setup = omega (arith, within, many) in
        let here = has_lane t fits weave well stands c low in
        let mine : here.lane.events ≡ events = same_Some here.lane.events events (sym (waits.each c here.lane low here.lane_is) ∙ at) in
        ap (λ (l : List (Carried P)). map (λ e. e.0) l) (sym mine)
        ∙ ((well.shard (shard_of weave.setup c) here.has here.there).kept.each c here.lane here.own here.at).events
        ∙ ap (λ h. queued_of h c) (same_history c history there here.has here.there)

    part : (colour : Colour) (event : Event) (lost : List (Colour × Event × Option P)) → IsRegistered colour event weave → IsTakenApart t weave histories states waiting lost → PartsFit t fits weave waiting lost → RanInPart t fits weave.setup (t.frame_of weave.given) colour event histories states waiting lost
    part colour event lost registered apart fit = record {
      begun = registered_in colour event weave histories are registered;
      legal = apart.legal;
      shards = ap length are ∙ length-map weave.shards (λ (has : ShardState S P). has.history) ∙ well.shards;
      at_rest = rests;
      colours = apart.many;
      coloured = apart.coloured;
      framed = apart.framed;
      ran = apart.trailed;
      queues = waits.many;
      waits = queued;
      fit = fit.queued;
      refused_fit = fit.lost;
    }

pub ran_in_part : {S P F : Type 0} (t : TrailWords S F) (fits : F → Colour → Event → Option P → Type 0) (setup : Setup) (frame : F) (colour : Colour) (event : Event) (weave : WeaveState S P) (histories : List (List Entry)) (states : List S) (waiting : List (List (Carried P))) (lost : List (Colour × Event × Option P))
    → weave.setup ≡ setup → t.frame_of weave.given ≡ frame → StandsWell t fits weave → WeaveStands t fits weave → histories ≡ map (λ (has : ShardState S P). has.history) weave.shards
    → AreByColour (λ (lane : ColourState S P). lane.state) weave.setup weave.shards (map (λ (s : S). Some s) states) → AreByColour (λ (lane : ColourState S P). lane.events) weave.setup weave.shards waiting
    → IsRegistered colour event weave → IsTakenApart t weave histories states waiting lost → PartsFit t fits weave waiting lost → RanInPart t fits setup frame colour event histories states waiting lost
ran_in_part t fits setup frame colour event weave histories states waiting lost of_setup of_frame well stands are homes waits registered apart fit =
    let whole = part t fits weave histories states well stands are homes waiting waits colour event lost registered apart fit in
    subst (λ f. RanInPart t fits setup f colour event histories states waiting lost) of_frame (subst (λ s. RanInPart t fits s (t.frame_of weave.given) colour event histories states waiting lost) of_setup whole)

-- ---- what handlers put

-- what free workers have put and not registered was refused to them
due_lost : {S P : Type 0} (c : Colour) (number : Event → ℕ) (ws : List (WorkerState S P)) → ((i : ℕ) (w : WorkerState S P) → slice_get ws i ≡ Some w → is_free w.phase ≡ true) → sum_by (λ (w : WorkerState S P). count_due c number w) ws ≡ count_puts c number (flat_map (λ (w : WorkerState S P). w.lost) ws)
due_lost c number [] free = refl
due_lost {S} {P} c number (w ∷ ws) free =
    let left = ap (λ l. count_puts c number l) (free_left w.phase (free 0 w refl)) in
    let rest = due_lost c number ws (λ i v at. free (suc i) v at) in
    let first = sum_by-cons (λ (v : WorkerState S P). count_due c number v) w ws in
    let both = sum_by-append (count_put c number) w.lost (flat_map (λ (v : WorkerState S P). v.lost) ws) in
    omega (arith, left, rest, first, both)

pub has_put_in_part : {R S P F : Type 0} (t : TrailWords S F) (fits : F → Colour → Event → Option P → Type 0) (y : AppWords R P S F) (app : R) (setup : Setup) (frame : F) (begin : Colour × Event × Option P) (weave : WeaveState S P) (histories : List (List Entry)) (states : List S) (lost : List (Colour × Event × Option P))
    → weave.setup ≡ setup → t.frame_of weave.given ≡ frame → StandsWell t fits weave → WeaveStands t fits weave → histories ≡ map (λ (has : ShardState S P). has.history) weave.shards
    → AreByColour (λ (lane : ColourState S P). lane.state) weave.setup weave.shards (map (λ (s : S). Some s) states) → AllFree weave → lost ≡ flat_map (λ (w : WorkerState S P). w.lost) weave.workers
    → IsAccounted t fits y app (begin ∷ []) weave → HasPutInPart t fits y app setup frame begin histories lost
has_put_in_part {R} {S} {P} t fits y app setup frame begin weave histories states lost of_setup of_frame well stands are homes free refused (runs, account) =
    let history_is : (c : Colour) (history : List Entry) → slice_get histories (shard_of weave.setup c) ≡ Some history → history_for weave.setup weave.shards c ≡ history = λ c history at.
    shard_history (slice_get weave.shards (shard_of weave.setup c)) history (sym (slice_get-map (λ (has : ShardState S P). has.history) weave.shards (shard_of weave.setup c)) ∙ ap (λ (l : List (List Entry)). slice_get l (shard_of weave.setup c)) (sym are) ∙ at) in
    let whole : HasPutInPart t fits y app weave.setup (t.frame_of weave.given) begin histories lost = (
      runs,
      record {
        each = account.each;
        put = λ c history at number.
            let all = account.put c number in
            let same = ap (λ h. sum_by number (registered_of h c)) (history_is c history at) in
            let due = due_lost c number weave.workers free ∙ ap (λ l. count_puts c number l) (sym refused) in
            let first = sum_by-cons (count_put c number) begin [] in
            omega (arith, all, same, due, first);
        ran = λ c history at low number.
            let all = account.ran c number in
            let left = left_none t c number weave.workers free in
            let same = ap (λ h. sum_along number [] (take (begun_of h c) (registered_of h c))) (history_is c history at) in
            let rest = ap (λ n. sum_along number [] (take n (registered_of history c))) (rests t fits weave histories states well stands are homes c history at low) in
            omega (arith, all, left, same, rest);
      },
    ) in
    subst (λ f. HasPutInPart t fits y app setup f begin histories lost) of_frame (subst (λ s. HasPutInPart t fits y app s (t.frame_of weave.given) begin histories lost) of_setup whole)

-- ---- the order of the runs

flat-map : {A X : Type 0} (f : A → List X) (xs : List A) → flat_map f xs ≡ flat_map (λ l. l) (map f xs)
flat-map f [] = refl
flat-map f (x ∷ xs) = ap (λ l. f x ++ l) (flat-map f xs)

module _ {R S P F : Type 0} (t : TrailWords S F) (fits : F → Colour → Event → Option P → Type 0) (y : AppWords R P S F) (app : R) (begin : Colour × Event × Option P) (first : List S) (weave : WeaveState S P) (states : List S)
    (notes : ℕ → List (Note S P)) (by_core : List (List (HandlerRun S P))) (told : WeaveTold t fits y app (λ c. slice_get first c.0) (begin ∷ []) weave notes by_core) (all : length first ≡ colours_of weave.setup)
    (well : StandsWell t fits weave) (stands : WeaveStands t fits weave) (homes : AreByColour (λ (lane : ColourState S P). lane.state) weave.setup weave.shards (map (λ (s : S). Some s) states)) (free : AllFree weave) where
  abbrev here : Colour → List (Note S P)
  here c = notes (shard_of weave.setup c)

  legal_on : (c : Colour) → IsLegal weave.setup (entries_of (here c))
  legal_on c = legal t fits y app begin first weave states notes by_core told all well stands homes c

  abbrev core_runs : Colour → ℕ → List (HandlerRun S P)
  core_runs c n = runs_on c (get_or by_core n [])

  abbrev colour_runs : Colour → List (ℕ × HandlerRun S P)
  colour_runs c = chain_of c (core_runs c) (here c)

  turn_told : (c : Colour) (from : S) → slice_get first c.0 ≡ Some from → (done after : List (Note S P)) (n count : ℕ) (state : Snapshot S) (stamp : Snapshot Stamp) → here c ≡ done ++ Fin c n count state stamp ∷ after → RunThrough (home_of from done c) (turn_of done c count) state.value (take count (drop (finished_by n done c) (core_runs c n)))
  turn_told c from is done after n count state stamp at =
      let low = finishers_below weave.setup c (core_runs c) (here c) (legal_on c) done after c n count state stamp at in
      let many = told.cores in
      let there : slice_get by_core n ≡ Some (get_or by_core n []) = slice_get-get_or by_core n [] (omega (arith, low, many)) in
      let w = worker_of t fits y app begin first weave states notes by_core told all well stands homes n (get_or by_core n []) there in
      (told.told n w.0 (get_or by_core n []) w.1 there).turns c from is done after count state stamp at

  on_colour : (c : Colour) (from to : S) → slice_get first c.0 ≡ Some from → slice_get states c.0 ≡ Some to → RunThrough from (take (ended_of (entries_of (here c)) c) (loaded_of (here c) c)) to (without_core (colour_runs c))
  on_colour c from to is end = subst (λ s. RunThrough from (take (ended_of (entries_of (here c)) c) (loaded_of (here c) c)) s (without_core (colour_runs c))) (sym (home t fits y app begin first weave states notes by_core told all well stands homes c from to is end))
      (through from c (core_runs c) weave.setup (here c) (legal_on c) (turn_told c from is))

  none_out : (c : Colour) (n : ℕ) (runs : List (HandlerRun S P)) → slice_get by_core n ≡ Some runs → drop (finished_by n (here c) c) (runs_on c runs) ≡ []
  none_out c n runs at =
      let w = worker_of t fits y app begin first weave states notes by_core told all well stands homes n runs at in
      let is = told.told n w.0 runs w.1 at in
      elim (cases_lt c.0 (colours_of weave.setup)) [
        | inl low ↦
            let from = get_there first c.0 (omega (arith, low, all)) in
            let place = hunts w.0.phase (free n w.0 w.1) in
            subst (λ phase. TellOut from.0 n c (here c) (runs_on c runs) phase) place.1 (is.out c from.0 from.1)
        | inr high ↦
            let none = none_beyond t fits y app weave.setup (t.frame_of weave.given) c runs high is.each in
            ap (drop (finished_by n (here c) c)) none ∙ drop_all (finished_by n (here c) c) [] (omega arith)
      ]

  of_core : (c : Colour) (n : ℕ) (runs : List (HandlerRun S P)) → slice_get by_core n ≡ Some runs → made_by n (colour_runs c) ≡ runs_on c runs
  of_core c n runs at =
      let same : core_runs c n ≡ runs_on c runs = ap (runs_on c) (get_or_from_slice_get by_core n runs [] at) in
      made_all c (core_runs c) n (here c) (ap (drop (finished_by n (here c) c)) same ∙ none_out c n runs at) ∙ same

  puts : (c : Colour) (n : ℕ) (runs : List (HandlerRun S P)) → slice_get by_core n ≡ Some runs → slice_get (map (λ (w : WorkerState S P). w.lost) weave.workers) n ≡ Some [] → loaded_of (notes_by n (here c)) c ≡ puts_on c (puts_of runs)
  puts c n runs at none =
      let w = worker_of t fits y app begin first weave states notes by_core told all well stands homes n runs at in
      let lost : w.0.lost ≡ [] = same_Some w.0.lost [] (sym (slice_get-map (λ (v : WorkerState S P). v.lost) weave.workers n ∙ ap (option_map (λ (v : WorkerState S P). v.lost)) w.1) ∙ none) in
      let left : puts_left w.0.phase ≡ [] = free_left w.0.phase (free n w.0 w.1) in
      sym (append-nil (loaded_of (notes_by n (here c)) c)) ∙ ap (λ l. loaded_of (notes_by n (here c)) c ++ puts_on c l) (sym left) ∙ (told.told n w.0 runs w.1 at).puts c lost

  waits_by_notes : (waiting : List (List (Carried P))) → AreByColour (λ (lane : ColourState S P). lane.events) weave.setup weave.shards waiting → (c : Colour) (events : List (Carried P)) → slice_get waiting c.0 ≡ Some events → events ≡ waiting_of (here c) c
  waits_by_notes waiting waits c events at =
      let within = slice_get_within waiting c.0 events at in
      let many = waits.many in
      let low : c.0 < colours_of weave.setup = omega (arith, within, many) in
      let lane = has_lane t fits weave well stands c low in
      let mine : events ≡ lane.lane.events = same_Some events lane.lane.events (sym at ∙ waits.each c lane.lane low lane.lane_is) in
      mine ∙ ((told.shard (shard_of weave.setup c) lane.has lane.there).shows.each c lane.lane lane.own lane.at).waits

  so_far : (histories : List (List Entry)) (waiting : List (List (Carried P))) (lost : List (Colour × Event × Option P)) → histories ≡ map (λ (has : ShardState S P). has.history) weave.shards → AreByColour (λ (lane : ColourState S P). lane.events) weave.setup weave.shards waiting
      → lost ≡ flat_map (λ (w : WorkerState S P). w.lost) weave.workers → RanInOrderSoFar t fits y app weave.setup (t.frame_of weave.given) begin first histories states waiting lost
  so_far histories waiting lost are waits refused = record {
    notes = notes;
    by_core = by_core;
    by_colour = colour_runs;
    refused_by = map (λ (w : WorkerState S P). w.lost) weave.workers;
    of_histories = of_notes t fits y app begin first weave states notes by_core told all well stands homes histories are;
    of_refused = refused ∙ flat-map (λ (w : WorkerState S P). w.lost) weave.workers;
    cores = told.cores;
    cores_refused = length-map weave.workers (λ (w : WorkerState S P). w.lost) ∙ well.workers;
    each = λ n runs at. (let w = worker_of t fits y app begin first weave states notes by_core told all well stands homes n runs at in (told.told n w.0 runs w.1 at).each);
    on_colour = on_colour;
    waits = waits_by_notes waiting waits;
    of_core = of_core;
    by_cores = λ c. by_cores weave.setup c (core_runs c) (here c) (legal_on c);
    puts = puts;
    begun = told.posts;
    no_other = told.no_other;
  }

pub ran_so_far : {R S P F : Type 0} (t : TrailWords S F) (fits : F → Colour → Event → Option P → Type 0) (y : AppWords R P S F) (app : R) (setup : Setup) (frame : F) (begin : Colour × Event × Option P) (first : List S) (weave : WeaveState S P) (histories : List (List Entry)) (states : List S) (waiting : List (List (Carried P))) (lost : List (Colour × Event × Option P))
    → weave.setup ≡ setup → t.frame_of weave.given ≡ frame → length first ≡ colours_of setup → StandsWell t fits weave → WeaveStands t fits weave → histories ≡ map (λ (has : ShardState S P). has.history) weave.shards
    → AreByColour (λ (lane : ColourState S P). lane.state) weave.setup weave.shards (map (λ (s : S). Some s) states) → AreByColour (λ (lane : ColourState S P). lane.events) weave.setup weave.shards waiting → AllFree weave
    → lost ≡ flat_map (λ (w : WorkerState S P). w.lost) weave.workers → IsTold t fits y app (λ c. slice_get first c.0) (begin ∷ []) weave → RanInOrderSoFar t fits y app setup frame begin first histories states waiting lost
ran_so_far t fits y app setup frame begin first weave histories states waiting lost of_setup of_frame all well stands are homes waits free refused (notes, by_core, told, did) =
    let whole = so_far t fits y app begin first weave states notes by_core told (all ∙ ap colours_of (sym of_setup)) well stands homes free histories waiting lost are waits refused in
    subst (λ f. RanInOrderSoFar t fits y app setup f begin first histories states waiting lost) of_frame (subst (λ s. RanInOrderSoFar t fits y app s (t.frame_of weave.given) begin first histories states waiting lost) of_setup whole)

-- ---- by the first state, and from some initial states

pub left_of_first : {A P F S : Type 0} (Holds : F → Unfinished S P → Type 0) (frame_of : S → F) (states : List S) (frame : F) (first : S) → slice_get states 0 ≡ Some first → frame_of first ≡ frame → (answer : Result A (RunError S P)) → IfCutShort answer (λ left. (s : S) → slice_get states 0 ≡ Some s → Holds (frame_of s) left) → IfCutShort answer (λ left. Holds frame left)
left_of_first Holds frame_of states frame first at framed (Ok ended) each = tt
left_of_first Holds frame_of states frame first at framed (Err (NotStarted load)) each = tt
left_of_first Holds frame_of states frame first at framed (Err (CutShort left)) each = subst (λ f. Holds f left) framed (each first at)

pub left_of_initial : {A P S : Type 0} (Ran : Unfinished S P → List S → Type 0) (Initial : List S → Type 0) (states : List S) → Initial states → (answer : Result A (RunError S P)) → IfCutShort answer (λ left. Ran left states) → IfCutShort answer (λ left. (first : List S) × Initial first × Ran left first)
left_of_initial Ran Initial states initial (Ok ended) so = tt
left_of_initial Ran Initial states initial (Err (NotStarted load)) so = tt
left_of_initial Ran Initial states initial (Err (CutShort left)) so = (states, initial, so)
