-- A shard as it is made has not been touched.
use Rattle.std.proofs.Common.{◌≡◌, ℕ, List, Option, Some, None, sym, ◌∙◌, ap}
use Rattle.std.specs.List.{slice_get}
use Rattle.std.specs.Prelude.{option_map}
use Rattle.std.proofs.lemmas.Option.{slice_get-map}
use Rattle.mely_history.specs.declared.setup.Setup.{Setup}
use Rattle.mely_shard.specs.Shard.{ShardState, ColourState, IsInitialShard, initial_lane}
use Rattle.mely_note.specs.ShowsNotes.{IsUntouched}

-- a lane that is initial is that of the state that it was given
initial_again : {S P : Type 0} (o : Option S) (lane : ColourState S P) → option_map initial_lane o ≡ Some lane → lane ≡ initial_lane lane.given
initial_again {S} {P} (Some state) lane is =
    let same : initial_lane state ≡ lane = cc in
    sym same ∙ ap (λ (l : ColourState S P). initial_lane l.given) same
initial_again None lane is = cc

pub untouched_initial : {S P : Type 0} (setup : Setup) (shard : ℕ) (states : List S) (has : ShardState S P) → IsInitialShard setup shard states has → IsUntouched has
untouched_initial setup shard states has made = record {
  no_entry = made.no_entry;
  each = λ i lane at.
      initial_again (slice_get states i) lane (sym (slice_get-map initial_lane states i) ∙ sym (ap (λ ls. slice_get ls i) made.lanes) ∙ at);
}
