-- A weave's sums at first, once nothing is queued, and once it is taken apart.
use Rattle.std.proofs.Common.{◌≡◌, ℕ, suc, ◌+◌, ◌<◌, true, List, [], ◌∷◌, ◌++◌, Option, None, Some, length, map, refl, sym, ◌∙◌, ap, subst, arith}
use Rattle.std.proofs.lemmas.List.{length-map, map-append}
use Rattle.std.proofs.lemmas.List.Sums.{sum_by-append, sum_by-cons}
use Rattle.std.proofs.lemmas.Option.{slice_get-map, slice_get_within, same_Some}
use Rattle.std.specs.Prelude.{slice_get, flat_map, sum_by, option_map}
use Rattle.mely_event.specs.declared.colour.Colour.{Colour}
use Rattle.mely_event.specs.declared.event.Event.{Event}
use Rattle.mely_event.specs.declared.trail.Trail.{Ghosts as TrailWords}
use Rattle.mely_history.specs.declared.setup.Setup.{Setup}
use Rattle.mely_history.specs.History.{IsRunning, ran_of}
use Rattle.mely_history.specs.Legal.{AreLegal, IsDrained}
use Rattle.mely_history.specs.declared.entry.Entry.{Entry}
use Rattle.mely_history.specs.Setup.{colours_of}
use Rattle.mely_shard.specs.Shard.{ShardState, ColourState, initial_lane, colour_at, place}
use Rattle.mely_worker.specs.declared.phase.Phase.{Phase}
use Rattle.mely_worker.specs.declared.phase.Phase.TheVariants.{Free, Popped, Picked, Landing, Pushing, Turning}
use Rattle.mely_worker.specs.Outs.{in_place}
use Rattle.mely_worker.specs.Phase.{is_free}
use Rattle.mely_worker.specs.Worker.{WorkerState}
use Rattle.mely_weave.specs.Drains.{AllFree, HistoriesAreDrained}
use Rattle.mely_weave.specs.Lanes.{lane_in, lane_for, AreByColour}
use Rattle.mely_weave.specs.Making.{AreInitial, IsInitialWeave}
use Rattle.mely_weave.specs.Side.{shard_of, history_in, history_for}
use Rattle.mely_weave.specs.StandsWell.{StandsWell}
use Rattle.mely_weave.specs.Weave.{WeaveState}
use Rattle.mely_weave.specs.WeaveStands.{IsWhole, IsHomeState, WeaveStands}
use Rattle.mely_weave.proofs.Wholes.GatherLemmas.{get_there}
use Rattle.mely_tally.specs.Tallies.{Carried, homes_in, waiting_in, carried_by, turned_in, on_hand, turned_by, refused_to, hold_of, under_way, refused_in}
use Rattle.mely_tally.specs.Tells.{IsMadeOf, IsTakenApart, BeginsAs}
use Rattle.mely_tally.proofs.ByColourLemmas.{TellsLane, place_is, own_at, by_colour, of_shards}
use Rattle.mely_tally.proofs.DealtLemmas.{sum_of_sums}
use Rattle.mely_tally.proofs.SumsLemmas.{sum_one}

-- lists of which none has anything
flat_none : {A X : Type 0} (h : A → List X) (xs : List A) → ((i : ℕ) (a : A) → slice_get xs i ≡ Some a → h a ≡ []) → flat_map h xs ≡ []
flat_none h [] none = refl
flat_none h (a ∷ more) none = ap (λ l. l ++ flat_map h more) (none 0 a refl) ∙ flat_none h more (λ i b at. none (suc i) b at)

-- lists that are the same at each place
flat_same : {A X : Type 0} (h k : A → List X) (xs : List A) → ((i : ℕ) (a : A) → slice_get xs i ≡ Some a → h a ≡ k a) → flat_map h xs ≡ flat_map k xs
flat_same h k [] same = refl
flat_same h k (a ∷ more) same = ap (λ l. l ++ flat_map h more) (same 0 a refl) ∙ ap (λ l. k a ++ l) (flat_same h k more (λ i b at. same (suc i) b at))

map_none : {A B : Type 0} (f : A → B) (xs : List A) → map f xs ≡ [] → xs ≡ []
map_none f [] is = refl
map_none f (x ∷ xs) is = cc

free_hand : {S P : Type 0} (phase : Phase S P) → is_free phase ≡ true → on_hand phase ≡ []
free_hand (Free at) free = refl
free_hand (Popped mark) free = cc
free_hand (Picked mark victim) free = cc
free_hand (Landing mark) free = cc
free_hand (Pushing core mark) free = cc
free_hand (Turning turn hand puts) free = cc

free_turn : {S P : Type 0} (phase : Phase S P) → is_free phase ≡ true → turned_in phase ≡ []
free_turn (Free at) free = refl
free_turn (Popped mark) free = cc
free_turn (Picked mark victim) free = cc
free_turn (Landing mark) free = cc
free_turn (Pushing core mark) free = cc
free_turn (Turning turn hand puts) free = cc

-- of workers that are free no state is away, and only what was refused is left
module _ {S P : Type 0} (weave : WeaveState S P) (free : AllFree weave) where
  none_away : flat_map turned_by weave.workers ≡ []
  none_away = flat_none (λ (w : WorkerState S P). turned_by w) weave.workers (λ core w at. free_turn w.phase (free core w at))

  only_refused : flat_map hold_of weave.workers ≡ refused_in weave
  only_refused = flat_same (λ (w : WorkerState S P). hold_of w) (λ (w : WorkerState S P). refused_to w) weave.workers (λ core w at. ap (λ (l : List (Carried P)). l ++ refused_to w) (free_hand w.phase (free core w at)))

-- what was refused, without colours
refused_by_core : {S P : Type 0} (workers : List (WorkerState S P)) → carried_by (flat_map (λ (w : WorkerState S P). w.lost) workers) ≡ flat_map (λ (w : WorkerState S P). refused_to w) workers
refused_by_core [] = refl
refused_by_core {S} {P} (w ∷ ws) = map-append (λ (put : Colour × Event × Option P). (put.1, put.2)) w.lost (flat_map (λ (v : WorkerState S P). v.lost) ws) ∙ ap (λ (l : List (Carried P)). refused_to w ++ l) (refused_by_core ws)

sum_homes : {S : Type 0} (f : S → ℕ) (states : List S) → sum_by (λ (o : Option S). sum_by f (in_place o)) (map (λ (s : S). Some s) states) ≡ sum_by f states
sum_homes f [] = refl
sum_homes {S} f (s ∷ more) = sum_by-cons (λ (o : Option S). sum_by f (in_place o)) (Some s) (map (λ (x : S). Some x) more) ∙ ap (λ n. sum_by f (s ∷ []) + n) (sum_homes f more) ∙ (let one = sum_one f s in let cons = sum_by-cons f s more in omega (arith, one, cons))

sum_nothing : {S P : Type 0} (g : Carried P → ℕ) (states : List S) → sum_by (λ (events : List (Carried P)). sum_by g events) (map (λ (s : S). let none : List (Carried P) = [] in none) states) ≡ 0
sum_nothing g [] = refl
sum_nothing g (s ∷ more) = let rest = sum_nothing g more in omega (arith, rest)

-- what a list has is there after a map too
get_map : {A B : Type 0} (f : A → B) (xs : List A) (k : ℕ) (a : A) → slice_get xs k ≡ Some a → slice_get (map f xs) k ≡ Some (f a)
get_map f xs k a at = slice_get-map f xs k ∙ ap (λ o. option_map f o) at

-- the history that comes out of a shard
some_of : {S P : Type 0} (o : Option (ShardState S P)) (history : List Entry) → option_map (λ (has : ShardState S P). has.history) o ≡ Some history → (has : ShardState S P) × (o ≡ Some has) × (has.history ≡ history)
some_of None history is = cc
some_of (Some has) history is = (has, refl, same_Some has.history history is)

history_at : {S P : Type 0} (o : Option (ShardState S P)) (history : List Entry) → option_map (λ (has : ShardState S P). has.history) o ≡ Some history → history_in o ≡ history
history_at None history is = cc
history_at (Some has) history is = same_Some has.history history is

module _ {S P F : Type 0} (t : TrailWords S F) (fits : F → Colour → Event → Option P → Type 0) (weave : WeaveState S P) (well : StandsWell t fits weave) where
  -- the states at home are those of the list, where that has the state of each colour
  homes_are : (states : List S) → length (map (λ (s : S). Some s) states) ≡ colours_of weave.setup → ((c : Colour) → c.0 < colours_of weave.setup → TellsLane (λ (lane : ColourState S P). lane.state) weave (map (λ (s : S). Some s) states) c) → (f : S → ℕ)
      → sum_by f (flat_map homes_in weave.shards) ≡ sum_by f states
  homes_are states many each f =
      of_shards (λ (lane : ColourState S P). lane.state) (λ (o : Option S). in_place o) f weave.shards
      ∙ by_colour t fits weave well (λ (lane : ColourState S P). lane.state) (map (λ (s : S). Some s) states) many each (λ (o : Option S). sum_by f (in_place o))
      ∙ sum_homes f states

  -- and so with the events that wait
  waits_are : (queued : List (List (Carried P))) → length queued ≡ colours_of weave.setup → ((c : Colour) → c.0 < colours_of weave.setup → TellsLane (λ (lane : ColourState S P). lane.events) weave queued c) → (g : Carried P → ℕ)
      → sum_by g (flat_map waiting_in weave.shards) ≡ sum_by (λ (events : List (Carried P)). sum_by g events) queued
  waits_are queued many each g =
      of_shards (λ (lane : ColourState S P). lane.events) (λ (events : List (Carried P)). events) g weave.shards
      ∙ by_colour t fits weave well (λ (lane : ColourState S P). lane.events) queued many each (λ (events : List (Carried P)). sum_by g events)

  -- ---- at rest

  module _ (free : AllFree weave) where
    lane_waits : HistoriesAreDrained weave → (number : ℕ) (has : ShardState S P) → slice_get weave.shards number ≡ Some has → (i : ℕ) (lane : ColourState S P) → slice_get has.lanes i ≡ Some lane → lane.events ≡ []
    lane_waits drained number has there i lane at =
        let kept = (well.shard number has there).kept in
        let c : Colour = colour_at has.setup has.shard i in
        let own = own_at t fits weave well number i has there (kept.only i (slice_get_within has.lanes i lane at)) in
        let stands = kept.each c lane own (ap (slice_get has.lanes) (place_is t fits weave well number i has there) ∙ at) in
        map_none (λ (e : Carried P). e.0) lane.events (stands.events ∙ (drained number has there c).none_queued)

    -- where nothing is queued, only what was refused is under way
    pub drained_ways : HistoriesAreDrained weave → under_way weave ≡ refused_in weave
    drained_ways drained =
        let waits = flat_none (λ (has : ShardState S P). waiting_in has) weave.shards (λ number has there. flat_none (λ (lane : ColourState S P). lane.events) has.lanes (lane_waits drained number has there)) in
        ap (λ (l : List (Carried P)). l ++ flat_map hold_of weave.workers) waits ∙ only_refused weave free

    -- the weave is made of its parts
    module _ (whole : IsWhole t fits weave) where
      told_at : {X : Type 0} (of : ColourState S P → X) (xs : List X) → AreByColour of weave.setup weave.shards xs → (c : Colour) → c.0 < colours_of weave.setup → TellsLane of weave xs c
      told_at of xs are c low = let there = whole.lanes c low in record { lane = there.0; lane_is = there.1; at = are.each c there.0 low there.1 }

      parts_make : (states : List S) (queued : List (List (Carried P))) (lost : List (Colour × Event × Option P))
          → AreByColour (λ (lane : ColourState S P). lane.state) weave.setup weave.shards (map (λ (s : S). Some s) states)
          → AreByColour (λ (lane : ColourState S P). lane.events) weave.setup weave.shards queued
          → lost ≡ flat_map (λ (w : WorkerState S P). w.lost) weave.workers
          → IsMadeOf weave states (flat_map (λ (events : List (Carried P)). events) queued ++ carried_by lost)
      parts_make states queued lost homes waits refused = record {
        states = λ f.
            let home = homes_are states homes.many (told_at (λ (lane : ColourState S P). lane.state) (map (λ (s : S). Some s) states) homes) f in
            let away = ap (λ (l : List S). sum_by f l) (none_away weave free) in
            let both = sum_by-append f (flat_map homes_in weave.shards) (flat_map turned_by weave.workers) in
            omega (arith, home, away, both);
        ways = λ g.
            let wait = waits_are queued waits.many (told_at (λ (lane : ColourState S P). lane.events) queued waits) g in
            let lists = sum_of_sums (λ (events : List (Carried P)). events) g queued in
            let left = ap (λ (l : List (Carried P)). sum_by g l) (only_refused weave free) in
            let gone = ap (λ (l : List (Carried P)). sum_by g l) (ap (λ (l : List (Colour × Event × Option P)). carried_by l) refused ∙ refused_by_core weave.workers) in
            let both = sum_by-append g (flat_map waiting_in weave.shards) (flat_map hold_of weave.workers) in
            let apart = sum_by-append g (flat_map (λ (events : List (Carried P)). events) queued) (carried_by lost) in
            omega (arith, wait, lists, left, gone, both, apart);
      }

    -- each state is the one at home of its colour
    module _ (stands : WeaveStands t fits weave) where
      home_in : (c : Colour) (s : S) (lane : ColourState S P) → c.0 < colours_of weave.setup → lane_for weave.setup weave.shards c ≡ Some lane → lane.state ≡ Some s → IsHomeState t fits weave c s
      home_in c s lane low there here =
          let at_rest : ¬ IsRunning (history_for weave.setup weave.shards c) c = λ runs. (let gone : None ≡ Some s = sym (stands.states.away c lane low there runs) ∙ here in cc) in
          let home = stands.states.home c lane low there at_rest in
          let same : home.0 ≡ s = same_Some home.0 s (sym home.1.0 ∙ here) in
          subst (λ (x : S). IsHomeState t fits weave c x) same home.1.1

      home_at : (states : List S) → AreByColour (λ (lane : ColourState S P). lane.state) weave.setup weave.shards (map (λ (s : S). Some s) states) → (c : Colour) (s : S) → slice_get states c.0 ≡ Some s → IsHomeState t fits weave c s
      home_at states homes c s at =
          let many = homes.many in
          let some = get_map (λ (x : S). Some x) states c.0 s at in
          let low : c.0 < colours_of weave.setup = (let within = slice_get_within (map (λ (x : S). Some x) states) c.0 (Some s) some in omega (arith, many, within)) in
          let lane = stands.whole.lanes c low in
          home_in c s lane.0 low lane.1 (same_Some lane.0.state (Some s) (sym (homes.each c lane.0 low lane.1) ∙ some))

      -- the history of a colour's shard, as it comes out
      history_is : (histories : List (List Entry)) → histories ≡ map (λ (has : ShardState S P). has.history) weave.shards → (c : Colour) (history : List Entry) → slice_get histories (shard_of weave.setup c) ≡ Some history → history_for weave.setup weave.shards c ≡ history
      history_is histories are c history at = history_at (slice_get weave.shards (shard_of weave.setup c)) history (sym (slice_get-map (λ (has : ShardState S P). has.history) weave.shards (shard_of weave.setup c)) ∙ ap (λ (l : List (List Entry)). slice_get l (shard_of weave.setup c)) (sym are) ∙ at)

      drained_out : (histories : List (List Entry)) → histories ≡ map (λ (has : ShardState S P). has.history) weave.shards → HistoriesAreDrained weave → (shard : ℕ) (history : List Entry) → slice_get histories shard ≡ Some history → IsDrained history
      drained_out histories are drained shard history at =
          let there = some_of (slice_get weave.shards shard) history (sym (slice_get-map (λ (has : ShardState S P). has.history) weave.shards shard) ∙ ap (λ (l : List (List Entry)). slice_get l shard) (sym are) ∙ at) in
          subst (λ (h : List Entry). IsDrained h) there.2 (drained shard there.0 there.1)

      drained_in : HistoriesAreDrained weave → (number : ℕ) (o : Option (ShardState S P)) → slice_get weave.shards number ≡ o → IsDrained (history_in o)
      drained_in drained number None at = λ c. record { at_rest = refl; none_queued = refl }
      drained_in drained number (Some has) at = drained number has at

      emptied_out : HistoriesAreDrained weave → (queued : List (List (Carried P))) → AreByColour (λ (lane : ColourState S P). lane.events) weave.setup weave.shards queued → flat_map (λ (events : List (Carried P)). events) queued ≡ []
      emptied_out drained queued waits = flat_none (λ (events : List (Carried P)). events) queued (λ i events at.
          let c : Colour = record { 0 = i } in
          let many = waits.many in
          let within = slice_get_within queued i events at in
          let low : c.0 < colours_of weave.setup = omega (arith, many, within) in
          let lane = stands.whole.lanes c low in
          let same : lane.0.events ≡ events = same_Some lane.0.events events (sym (waits.each c lane.0 low lane.1) ∙ at) in
          let none = map_none (λ (e : Carried P). e.0) lane.0.events (stands.histories.queued c lane.0 low lane.1 ∙ (drained_in drained (shard_of weave.setup c) (slice_get weave.shards (shard_of weave.setup c)) refl c).none_queued) in
          sym same ∙ none)

      pub taken_apart : (histories : List (List Entry)) (states : List S) (queued : List (List (Carried P))) (lost : List (Colour × Event × Option P))
          → histories ≡ map (λ (has : ShardState S P). has.history) weave.shards
          → AreByColour (λ (lane : ColourState S P). lane.state) weave.setup weave.shards (map (λ (s : S). Some s) states)
          → AreByColour (λ (lane : ColourState S P). lane.events) weave.setup weave.shards queued
          → lost ≡ flat_map (λ (w : WorkerState S P). w.lost) weave.workers
          → IsTakenApart t weave histories states queued lost
      taken_apart histories states queued lost are homes waits refused = record {
        made = parts_make stands.whole states queued lost homes waits refused;
        legal = subst (λ (l : List (List Entry)). AreLegal weave.setup l) (sym are) stands.histories.legal;
        drained = drained_out histories are;
        emptied = λ drained. emptied_out drained queued waits;
        many = sym (length-map states (λ (s : S). Some s)) ∙ homes.many;
        coloured = λ c state at. (home_at states homes c state at).colour;
        framed = λ c state at. (home_at states homes c state at).frame;
        trailed = λ c state history at there. (home_at states homes c state at).trail ∙ ap (λ (h : List Entry). ran_of h c) (history_is histories are c history there);
      }

-- ---- at first

module _ {S P F : Type 0} (t : TrailWords S F) (fits : F → Colour → Event → Option P → Type 0) (setup : Setup) (states : List S) (weave : WeaveState S P) (first : AreInitial t setup states) (well : StandsWell t fits weave) (is : IsInitialWeave setup states weave) where
  colours : colours_of weave.setup ≡ colours_of setup
  colours = ap (λ (s : Setup). colours_of s) is.of_setup

  first_free : AllFree weave
  first_free core w at = ap (λ (v : WorkerState S P). is_free v.phase) (is.worker core w at)

  none_refused : refused_in weave ≡ []
  none_refused = flat_none (λ (w : WorkerState S P). refused_to w) weave.workers (λ core w at. ap (λ (v : WorkerState S P). refused_to v) (is.worker core w at))

  given_at : (c : Colour) → c.0 < colours_of weave.setup → (s : S) × (slice_get states c.0 ≡ Some s)
  given_at c low = let all = first.all in get_there states c.0 (omega (arith, low, all, colours))

  -- each lane has something that the states tell
  first_tells : {X : Type 0} (of : ColourState S P → X) (told : S → X) → ((s : S) → of (initial_lane s) ≡ told s) → (c : Colour) → c.0 < colours_of weave.setup → TellsLane of weave (map told states) c
  first_tells {X} of told same c low =
      let given = given_at c low in
      record {
        lane = initial_lane given.0;
        lane_is = is.lane c given.0 given.1;
        at = get_map told states c.0 given.0 given.1 ∙ ap (λ (x : X). Some x) (sym (same given.0));
      }

  count : {X : Type 0} (told : S → X) → length (map told states) ≡ colours_of weave.setup
  count told = let same = length-map states told in let all = first.all in omega (arith, same, all, colours)

  made : IsMadeOf weave states []
  made = record {
    states = λ f.
        let home = homes_are t fits weave well states (count (λ (s : S). Some s)) (first_tells (λ (lane : ColourState S P). lane.state) (λ (s : S). Some s) (λ s. refl)) f in
        let away = ap (λ (l : List S). sum_by f l) (none_away weave first_free) in
        let both = sum_by-append f (flat_map homes_in weave.shards) (flat_map turned_by weave.workers) in
        omega (arith, home, away, both);
    ways = λ g.
        let empty : S → List (Carried P) = λ s. [] in
        let wait = waits_are t fits weave well (map empty states) (count empty) (first_tells (λ (lane : ColourState S P). lane.events) empty (λ s. refl)) g in
        let nothing = sum_nothing g states in
        let left = ap (λ (l : List (Carried P)). sum_by g l) (only_refused weave first_free ∙ none_refused) in
        let both = sum_by-append g (flat_map waiting_in weave.shards) (flat_map hold_of weave.workers) in
        omega (arith, wait, nothing, left, both);
  }

  framed_in : (c : Colour) (s : S) (o : Option (ShardState S P)) → slice_get weave.shards (shard_of weave.setup c) ≡ o → lane_in o c ≡ Some (initial_lane s) → t.frame_of s ≡ t.frame_of weave.given
  framed_in c s None there lane_is = cc
  framed_in c s (Some has) there lane_is =
      (well.shard (shard_of weave.setup c) has there).framed (place has.setup c) s (get_map (λ (lane : ColourState S P). lane.given) has.lanes (place has.setup c) (initial_lane s) lane_is)

  pub begins : BeginsAs t states weave
  begins = record {
    made = made;
    free = first_free;
    framed = λ i s at. let c : Colour = record { 0 = i } in framed_in c s (slice_get weave.shards (shard_of weave.setup c)) refl (is.lane c s at);
  }
