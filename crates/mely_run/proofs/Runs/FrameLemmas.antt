-- The frame of a weave at first, and what holds under it.
use Rattle.std.proofs.Common.{◌≡◌, ◌<◌, List, [], ◌∷◌, Option, None, Some, length, arith, refl, sym, ap, subst, ◌∙◌}
use Rattle.std.specs.Prelude.{ℕ, slice_get}
use Rattle.std.proofs.lemmas.Option.{none-some, same_Some, slice_get_within}
use Rattle.mely_event.specs.declared.colour.Colour.{Colour}
use Rattle.mely_event.specs.declared.event.Event.{Event}
use Rattle.mely_event.specs.declared.trail.Trail.{Ghosts as TrailWords}
use Rattle.mely_history.specs.declared.setup.Setup.{Setup}
use Rattle.mely_shard.specs.Shard.{ShardState, ColourState, initial_lane, place}
use Rattle.mely_worker.specs.declared.app.App.{Ghosts as AppWords}
use Rattle.mely_worker.specs.Access.{FitsSetup}
use Rattle.mely_worker.specs.Conditions.{AppServes}
use Rattle.mely_weave.specs.Side.{shard_of}
use Rattle.mely_weave.specs.Lanes.{lane_in}
use Rattle.mely_weave.specs.StandsWell.{StandsWell}
use Rattle.mely_weave.specs.Weave.{WeaveState}
use Rattle.mely_weave.specs.Making.{IsInitialWeave}
use Rattle.mely_weave.specs.Runs.{KeepsSetup}
use Rattle.mely_run.specs.WholeRuns.{IsWholeRun}
use Rattle.mely_history.specs.declared.entry.Entry.{Entry}
use Rattle.mely_weave.proofs.Entries.SideLemmas.{get_map}

first_there : {A : Type 0} (xs : List A) → 0 < length xs → (x : A) × (slice_get xs 0 ≡ Some x)
first_there [] some = absurd (omega (arith, some))
first_there (x ∷ xs) some = (x, refl)

module _ {S P F : Type 0} (t : TrailWords S F) (fits : F → Colour → Event → Option P → Type 0) (setup : Setup) (states : List S) (weave : WeaveState S P) (first : IsInitialWeave setup states weave) (well : StandsWell t fits weave) (some : 0 < length states) where
  state_there : slice_get states 0 ≡ Some (first_there states some).0
  state_there = (first_there states some).1

  abbrev nought : Colour
  nought = record { 0 = 0 }

  frame_is : t.frame_of (first_there states some).0 ≡ t.frame_of weave.given
  frame_is = by_shard (slice_get weave.shards (shard_of weave.setup nought)) refl (first.lane nought (first_there states some).0 state_there)
    where
      by_shard : (found : Option (ShardState S P)) → slice_get weave.shards (shard_of weave.setup nought) ≡ found → lane_in found nought ≡ Some (initial_lane (first_there states some).0) → t.frame_of (first_there states some).0 ≡ t.frame_of weave.given
      by_shard None at lane = absurd (none-some (initial_lane (first_there states some).0) lane)
      by_shard (Some has) at lane = (well.shard (shard_of weave.setup nought) has at).framed (place has.setup nought) (first_there states some).0 (get_map (λ (l : ColourState S P). l.given) has.lanes (place has.setup nought) (initial_lane (first_there states some).0) lane)

  pub fits_there : (put : Colour × Event × Option P) → ((s : S) → slice_get states 0 ≡ Some s → FitsSetup fits setup (t.frame_of s) put) → FitsSetup fits weave.setup (t.frame_of weave.given) put
  fits_there put fit = subst (λ (s : Setup). FitsSetup fits s (t.frame_of weave.given) put) (sym first.of_setup) (subst (λ (f : F). FitsSetup fits setup f put) frame_is (fit (first_there states some).0 state_there))

  pub serves_there : {R : Type 0} (y : AppWords R P S F) (app : R) (later : WeaveState S P) → KeepsSetup weave later → ((s : S) → slice_get states 0 ≡ Some s → AppServes y setup (t.frame_of s) app) → AppServes y later.setup (t.frame_of later.given) app
  serves_there y app later same serves =
      subst (λ (s : Setup). AppServes y s (t.frame_of later.given) app) (sym (same.setup ∙ first.of_setup))
      (subst (λ (f : F). AppServes y setup f app) (frame_is ∙ sym (ap t.frame_of same.given)) (serves (first_there states some).0 state_there))

-- the frame of a whole run is that of the first state
pub framed_there : {S P F R : Type 0} {t : TrailWords S F} {fits : F → Colour → Event → Option P → Type 0} {y : AppWords R P S F} {app : R} {setup : Setup} {states : List S} {c : Colour} {event : Event} {load : Option P} {schedule : List (ℕ × ℕ)} {histories : List (List Entry)} {left : List S}
    → (run : IsWholeRun t fits y app setup states c event load schedule histories left) → (first : S) → slice_get states 0 ≡ Some first → t.frame_of run.posted.given ≡ t.frame_of first
framed_there {S = S} {t = t} {fits} {states = states} run first there =
    let some : 0 < length states = slice_get_within states 0 first there in
    let same : (first_there states some).0 ≡ first = same_Some (first_there states some).0 first (sym (first_there states some).1 ∙ there) in
    ap t.frame_of run.begun.same.given ∙ sym (frame_is t fits _ states run.begun.first run.begun.made run.begun.well some) ∙ ap t.frame_of same
