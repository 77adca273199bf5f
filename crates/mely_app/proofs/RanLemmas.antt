-- Where a weave's histories are drained, its parts show that every event was run.
use Rattle.std.proofs.Common.{◌≡◌, ℕ, List, [], ◌++◌, length, map, take, drop, sym, ◌∙◌, ap, subst}
use Rattle.std.proofs.lemmas.List.{length-map, append-nil, take-append-drop}
use Rattle.std.proofs.lemmas.Option.{slice_get-map}
use Rattle.std.specs.Prelude.{Option, Some, Result, Ok, Err, IfOk, slice_get, option_map}
use Rattle.mely_event.specs.declared.colour.Colour.{Colour}
use Rattle.mely_event.specs.declared.event.Event.{Event}
use Rattle.mely_event.specs.declared.trail.Trail.{Ghosts as TrailWords}
use Rattle.mely_history.specs.declared.entry.Entry.{Entry}
use Rattle.mely_history.specs.declared.setup.Setup.{Setup}
use Rattle.mely_history.specs.History.{registered_of, begun_of, ran_of}
use Rattle.mely_history.specs.Legal.{IsDrainedOf}
use Rattle.mely_shard.specs.Shard.{ShardState}
use Rattle.mely_history.specs.Setup.{shape_of}
use Rattle.mely_weave.specs.Drains.{HistoriesAreDrained}
use Rattle.mely_weave.specs.Side.{shard_of}
use Rattle.mely_weave.specs.Weave.{WeaveState}
use Rattle.mely_tally.specs.Tallies.{Carried}
use Rattle.mely_tally.specs.Tells.{IsTakenApart}
use Rattle.mely_crew.specs.Crew.{IsRegistered, IsRegisteredIn}
use Rattle.mely_app.specs.RanAll.{RanAll}

-- where nothing is left behind a front, that is the whole
pub front_whole : {A : Type 0} (n : ℕ) (xs : List A) → drop n xs ≡ [] → take n xs ≡ xs
front_whole n xs none = sym (append-nil (take n xs)) ∙ ap (λ l. take n xs ++ l) (sym none) ∙ take-append-drop n xs

-- where nothing runs or waits, all that was registered was run
all_ran : (history : List Entry) (c : Colour) → IsDrainedOf history c → ran_of history c ≡ registered_of history c
all_ran history c drained = ap (λ n. take n (registered_of history c)) (sym drained.at_rest) ∙ front_whole (begun_of history c) (registered_of history c) drained.none_queued

-- the history of its shard has the registration of the first event
pub registered_in : {S P : Type 0} (colour : Colour) (event : Event) (weave : WeaveState S P) (histories : List (List Entry)) → histories ≡ map (λ (has : ShardState S P). has.history) weave.shards → IsRegistered colour event weave
    → (history : List Entry) → slice_get histories (shard_of weave.setup colour) ≡ Some history → IsRegisteredIn weave.setup colour event history
registered_in {S} {P} colour event weave histories are registered history there =
    let shard = shard_of weave.setup colour in
    let at : slice_get histories shard ≡ Some registered.has.history =
    ap (λ hs. slice_get hs shard) are
    ∙ slice_get-map (λ (has : ShardState S P). has.history) weave.shards shard
    ∙ ap (option_map (λ (has : ShardState S P). has.history)) registered.there in
    let both : Some history ≡ Some registered.has.history = sym there ∙ at in
    let same : history ≡ registered.has.history = cc in
    subst (λ h. IsRegisteredIn weave.setup colour event h) (sym same) registered.registered

pub ran_all : {S P F : Type 0} (t : TrailWords S F) (setup : Setup) (colour : Colour) (event : Event) (weave : WeaveState S P) (histories : List (List Entry)) (states : List S) (queued : List (List (Carried P))) (lost : List (Colour × Event × Option P))
    → weave.setup ≡ setup → length weave.shards ≡ (shape_of weave.setup).shards → histories ≡ map (λ (has : ShardState S P). has.history) weave.shards
    → IsRegistered colour event weave → HistoriesAreDrained weave → IsTakenApart t weave histories states queued lost → RanAll t setup colour event histories states
ran_all {S} {P} t setup colour event weave histories states queued lost of_setup shards are registered drained apart =
    let whole : RanAll t weave.setup colour event histories states = record {
      begun = registered_in colour event weave histories are registered;
      legal = apart.legal;
      shards = ap length are ∙ length-map weave.shards (λ (has : ShardState S P). has.history) ∙ shards;
      drained = apart.drained drained;
      colours = apart.many;
      coloured = apart.coloured;
      ran = λ c state history at there.
          let shard = shard_of weave.setup c in
          apart.trailed c state history at there ∙ all_ran history c (apart.drained drained shard history there c);
    } in
    subst (λ (k : Setup). RanAll t k colour event histories states) of_setup whole

-- what is so of the frame of the first state is so of a frame that is the same
pub of_first : {A E F S : Type 0} (Holds : F → A → Type 0) (frame_of : S → F) (states : List S) (frame : F) (first : S) → slice_get states 0 ≡ Some first → frame_of first ≡ frame → (answer : Result A E) → IfOk answer (λ a. (s : S) → slice_get states 0 ≡ Some s → Holds (frame_of s) a) → IfOk answer (λ a. Holds frame a)
of_first Holds frame_of states frame first at framed (Ok a) each = subst (λ f. Holds f a) framed (each first at)
of_first Holds frame_of states frame first at framed (Err e) each = tt
