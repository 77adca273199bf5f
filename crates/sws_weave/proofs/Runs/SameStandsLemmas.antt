-- What stands of a run stands of every weave that has the same sums.
use Rattle.std.proofs.Common.{◌≡◌, ℕ, List, ◌∙◌, arith}
use Rattle.std.specs.Prelude.{sum_by}
use Rattle.sws_steps.specs.declared.talk.Talk.{Ghosts as TalkWords}
use Rattle.sws_handlers.specs.Place.{PlaceState}
use Rattle.sws_weave.specs.RunStands.{Way, worlds, beyond, early, unended_count, asks_for, misplaced_count, desks, seats, rests, rests_beyond, unended_rests, rests_in_vain, is_last, waits_for, strays, is_at, is_opened, RunStands}

module _ {W L T G H : Type 0} (y : TalkWords T L G H) (total : ℕ) (before after : List (PlaceState H W T)) (ways later : List (Way W L))
    (states_same : (f : PlaceState H W T → ℕ) → sum_by f after ≡ sum_by f before)
    (ways_same : (g : Way W L → ℕ) → sum_by g later ≡ sum_by g ways) where
  pub same_stands : RunStands y total before ways → RunStands y total after later
  same_stands was = record {
    placed = states_same (misplaced_count total) ∙ was.placed;
    one_desk = states_same desks ∙ was.one_desk;
    one_seat = λ i low. states_same (seats i) ∙ was.one_seat i low;
    one_world = let h = was.one_world in omega (arith, h, ways_same worlds, states_same rests);
    opens = λ i low. let h = was.opens i low in omega (arith, h, ways_same (asks_for 3 i), ways_same (beyond i), states_same (is_opened y i), states_same (rests_beyond i));
    steps = λ i n low more less. let h = was.steps i n low more less in omega (arith, h, ways_same (asks_for n i), states_same (is_at y i n));
    waits = λ i low. let h = was.waits i low in omega (arith, h, ways_same (asks_for 9 i), ways_same (asks_for 1 i), states_same (waits_for i), states_same (is_at y i 9));
    no_stray = states_same strays ∙ was.no_stray;
    ended = let h = was.ended in omega (arith, h, ways_same (unended_count total), states_same (unended_rests total));
    late = let h = was.late in omega (arith, h, ways_same early, states_same is_last);
    not_in_vain = states_same rests_in_vain ∙ was.not_in_vain;
  }
