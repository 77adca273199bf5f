-- A weave whose workers are free, taken apart.
use Rattle.std.proofs.Common.{◌≡◌, ℕ, ◌+◌, ◌*◌, ◌≤◌, ◌<◌, ◌/◌, ◌%◌, IsTrue, suc, List, [], ◌∷◌, refl, Option, Some, length, map, ap, sym, ◌∙◌, arith}
use Rattle.std.proofs.lemmas.List.{length-map}
use Rattle.std.proofs.lemmas.Nat.{div-mul-add, mod-mul-add, div-add-mod'}
use Rattle.std.proofs.lemmas.Option.{slice_get_within, slice_get-map, same_Some, none-some}
use Rattle.std.specs.Prelude.{slice_get, option_map}
use Rattle.std.specs.List.{AllByRecursion}
use Rattle.mely_event.specs.declared.colour.Colour.{Colour}
use Rattle.mely_event.specs.declared.event.Event.{Event}
use Rattle.mely_event.specs.declared.trail.Trail.{Ghosts as TrailWords}
use Rattle.mely_history.specs.declared.setup.Setup.{Setup}
use Rattle.mely_history.specs.Setup.{shape_of, colours_of, is_listed}
use Rattle.mely_history.specs.Kept.{HistoryState}
use Rattle.mely_history.specs.History.{owner_of}
use Rattle.mely_history.proofs.LegalAccountLemmas.{running_on_owner}
use Rattle.mely_shard.specs.Shard.{ShardState, ColourState, IsOwn, colour_at, place}
use Rattle.mely_worker.specs.declared.phase.Phase.{Phase}
use Rattle.mely_worker.specs.declared.phase.Phase.TheVariants.{Free, Popped, Picked, Landing, Pushing, Turning}
use Rattle.mely_worker.specs.Phase.{is_free}
use Rattle.mely_worker.specs.Worker.{WorkerState}
use Rattle.mely_weave.specs.Side.{shard_of, history_in, history_for}
use Rattle.mely_weave.specs.Hands.{colour_in}
use Rattle.mely_weave.specs.Dealing.{AreDealt}
use Rattle.mely_weave.specs.Lanes.{AreByColour, lane_in}
use Rattle.mely_weave.specs.Spreading.{AreFull, IsAtRest}
use Rattle.mely_weave.specs.StandsWell.{StandsWell}
use Rattle.mely_weave.specs.Weave.{WeaveState}
use Rattle.mely_weave.proofs.Wholes.GatherLemmas.{get_there}

-- a free worker runs nothing
free_runs : {S P : Type 0} (phase : Phase S P) (c : Colour) → IsTrue (is_free phase) → colour_in phase ≡ Some c → ⊥
free_runs (Free at) c free runs = none-some c runs
free_runs (Popped mark) c free runs = none-some c runs
free_runs (Picked mark victim) c free runs = none-some c runs
free_runs (Landing mark) c free runs = none-some c runs
free_runs (Pushing to mark) c free runs = none-some c runs
free_runs (Turning turn hand puts) c free runs = cc

-- an element that an equal list has too
pub get_same : {A B C : Type 0} (f : A → C) (g : B → C) (xs : List A) (ys : List B) (i : ℕ) (y : B) → map f xs ≡ map g ys → slice_get ys i ≡ Some y → (x : A) × ((slice_get xs i ≡ Some x) × (f x ≡ g y))
get_same f g xs ys i y same at =
    let low : i < length xs = let within = slice_get_within ys i y at in let many = ap length same in omega (arith, within, many, length-map xs f, length-map ys g) in
    let here = get_there xs i low in
    (here.0, (here.1, same_Some (f here.0) (g y) (sym (slice_get-map f xs i ∙ ap (option_map f) here.1) ∙ ap (λ zs. slice_get zs i) same ∙ slice_get-map g ys i ∙ ap (option_map g) at)))

-- what is one value in the whole of an equal list
all_same : {A B C : Type 0} (f : A → C) (g : B → C) (v : C) (xs : List A) (ys : List B) → map f xs ≡ map g ys → ((i : ℕ) (y : B) → slice_get ys i ≡ Some y → g y ≡ v) → AllByRecursion (λ x. f x ≡ v) xs
all_same f g v [] ys same each = tt
all_same f g v (x ∷ xs) [] same each = absurd (cc same)
all_same f g v (x ∷ xs) (y ∷ ys) same each = (let first : f x ≡ g y = cc same in first ∙ each 0 y refl, all_same f g v xs ys (cc same) (λ i z at. each (suc i) z at))

module _ {S P F : Type 0} (t : TrailWords S F) (fits : F → Colour → Event → Option P → Type 0) (weave : WeaveState S P) (stands : StandsWell t fits weave) where
  -- the histories of the shards are listed as the setup says
  pub listed_as_setup : (histories : List HistoryState) → map (λ (history : HistoryState). history.listed) histories ≡ map (λ (has : ShardState S P). is_listed has.setup) weave.shards → AllByRecursion (λ (history : HistoryState). history.listed ≡ is_listed weave.setup) histories
  listed_as_setup histories same = all_same (λ (history : HistoryState). history.listed) (λ (has : ShardState S P). is_listed has.setup) (is_listed weave.setup) histories weave.shards same (λ number has at. ap (λ (s : Setup). is_listed s) (stands.shard number has at).of_setup)

  -- where all workers are free, no colour runs
  pub rests_where_free : ((core : ℕ) (w : WorkerState S P) → slice_get weave.workers core ≡ Some w → IsTrue (is_free w.phase)) → (number : ℕ) (has : ShardState S P) → slice_get weave.shards number ≡ Some has → IsAtRest has
  rests_where_free free number has at c own runs =
      let is = stands.shard number has at in
      let turn = running_on_owner has.setup has.history c is.kept.legal runs in
      let shard_is : shard_of weave.setup c ≡ number = ap (λ (s : Setup). c.0 % (shape_of s).shards) (sym is.of_setup) ∙ own.here ∙ is.numbered in
      let history_is : history_for weave.setup weave.shards c ≡ has.history = ap (λ k. history_in (slice_get weave.shards k)) shard_is ∙ ap history_in at in
      let turning = stands.running c (owner_of has.setup has.history c) turn.count (rw history_is (record { running = runs; last = turn.last })) in
      free_runs turning.worker.phase c (free (owner_of has.setup has.history c) turning.worker turning.there) turning.turning

  module _ {X Y Z : Type 0} (f : X → Z) (items : Y → List X) (of : ColourState S P → Z) (piles : List Y) (given : map (λ pile. map f (items pile)) piles ≡ map (λ (has : ShardState S P). map of has.lanes) weave.shards) where
    pub pile_count : length piles ≡ (shape_of weave.setup).shards
    pile_count = sym (length-map piles (λ pile. map f (items pile))) ∙ ap length given ∙ length-map weave.shards (λ (has : ShardState S P). map of has.lanes) ∙ stands.shards

    -- each shard gives one thing for each of its colours
    pub gives_full : AreFull items (shape_of weave.setup).shards (colours_of weave.setup) piles
    gives_full shard pile at i =
        let has = get_there weave.shards shard (let low = slice_get_within piles shard pile at in let many = stands.shards in omega (arith, low, pile_count, many)) in
        let is = stands.shard shard has.0 has.1 in
        let mine = get_same (λ y. map f (items y)) (λ (h : ShardState S P). map of h.lanes) piles weave.shards shard has.0 given has.1 in
        let same : mine.0 ≡ pile = same_Some mine.0 pile (sym mine.1.0 ∙ at) in
        let as_many : length (items pile) ≡ length has.0.lanes = ap (λ y. length (items y)) (sym same) ∙ sym (length-map (items mine.0) f) ∙ ap length mine.1.1 ∙ length-map has.0.lanes of in
        let under : shard < (shape_of weave.setup).shards = let low = slice_get_within piles shard pile at in omega (arith, low, pile_count) in
        let colour_is : (colour_at has.0.setup has.0.shard i).0 ≡ i * (shape_of weave.setup).shards + shard = λ k. i * (shape_of (is.of_setup k)).shards + is.numbered k in
        let colours_is : colours_of has.0.setup ≡ colours_of weave.setup = ap (λ (s : Setup). colours_of s) is.of_setup in (
          (λ low. let only = is.kept.only i (omega (arith, low, as_many)) in omega (arith, only, colour_is, colours_is)),
          (λ low.
              let own : IsOwn has.0 (record { 0 = i * (shape_of weave.setup).shards + shard }) = record {
                there = omega (arith, low, colours_is);
                here = ap (λ (s : Setup). (i * (shape_of weave.setup).shards + shard) % (shape_of s).shards) is.of_setup ∙ mod-mul-add i (shape_of weave.setup).shards shard under ∙ sym is.numbered;
              } in
              let found = is.kept.found (record { 0 = i * (shape_of weave.setup).shards + shard }) own in
              let place_is : place has.0.setup (record { 0 = i * (shape_of weave.setup).shards + shard }) ≡ i = ap (λ (s : Setup). (i * (shape_of weave.setup).shards + shard) / (shape_of s).shards) is.of_setup ∙ div-mul-add i (shape_of weave.setup).shards shard under in
              omega (arith, found, place_is, as_many)),
        )

    -- and so what was spread is by colour
    pub spread_by_colour : (all : List X) → length all ≡ colours_of weave.setup → AreDealt items (shape_of weave.setup).shards all piles → AreByColour of weave.setup weave.shards (map f all)
    spread_by_colour all many dealt = record {
      many = length-map all f ∙ many;
      each = λ c lane low at.
          let has = get_there weave.shards (shard_of weave.setup c) (let some : 1 ≤ (shape_of weave.setup).shards = weave.setup.shards_in.0 in let count = stands.shards in omega (arith, some, count)) in
          let is = stands.shard (shard_of weave.setup c) has.0 has.1 in
          let here : slice_get has.0.lanes (place weave.setup c) ≡ Some lane = ap (λ (s : Setup). slice_get has.0.lanes (place s c)) (sym is.of_setup) ∙ sym (ap (λ o. lane_in o c) has.1) ∙ at in
          let pile = get_same (λ y. map f (items y)) (λ (h : ShardState S P). map of h.lanes) piles weave.shards (shard_of weave.setup c) has.0 given has.1 in
          slice_get-map f all c.0
          ∙ ap (option_map f) (ap (slice_get all) (sym (div-add-mod' c.0 (shape_of weave.setup).shards)) ∙ sym (dealt.each (shard_of weave.setup c) pile.0 pile.1.0 (place weave.setup c)))
          ∙ sym (slice_get-map f (items pile.0) (place weave.setup c))
          ∙ ap (λ zs. slice_get zs (place weave.setup c)) pile.1.1
          ∙ slice_get-map of has.0.lanes (place weave.setup c)
          ∙ ap (option_map of) here;
    }
