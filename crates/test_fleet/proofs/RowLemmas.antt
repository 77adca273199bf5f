-- What the calls of the tests need.
use Rattle.std.proofs.Common.{◌≡◌, ℕ, ◌<◌, ◌≤◌, List, [], ◌∷◌, ◌++◌, Option, Some, Result, Ok, Err, IfOk, length, sym, ◌∙◌, ap, subst, arith, append_assoc, drop, take}
use Rattle.std.specs.Prelude.{slice_get}
use Rattle.std.proofs.Math.Seq.{take-append_seam}
use Rattle.std.proofs.lemmas.Option.{slice_get_within}
use Rattle.mely_event.specs.declared.colour.Colour.{Colour}
use Rattle.mely_event.specs.declared.event.Event.{Event}
use Rattle.mely_event.specs.declared.logged.Logged.{Logged}
use Rattle.mely_event.specs.declared.trail.Trail.{Ghosts as TrailWords}
use Rattle.mely_history.specs.declared.no_take.NoTake.{NoTake}
use Rattle.mely_history.specs.declared.setup.Setup.{Setup}
use Rattle.mely_history.specs.Owing.{IsOwed}
use Rattle.mely_history.specs.Setup.{shape_of, colours_of}
use Rattle.mely_queue.specs.Turn.{TurnState}
use Rattle.mely_weave.proofs.Wholes.DealLemmas.{push_at, push_other}
use Rattle.mely_weave.specs.Making.{initial_idle_worker}
use Rattle.mely_weave.specs.Side.{shard_of}
use Rattle.mely_worker.specs.Access.{events_of}
use Rattle.mely_worker.specs.IdleWorker.{IdleWorkerState}
use Rattle.mely_note.specs.declared.note.Note.{Note}
use Rattle.mely_note.specs.Notes.{entries_of}
use Rattle.mely_fleet.specs.declared.fleet.FleetOf.{FleetOf}
use Rattle.mely_fleet.specs.declared.passes.PassesOf.{PassesOf}
use Rattle.mely_kept.specs.declared.kept_shard.ShardFrame.{ShardFrame}
use Rattle.mely_kept.specs.Calls.{TakesAt}
use Rattle.mely_fleet.specs.Calls.{front_for}
use Rattle.mely_kept.specs.Frames.{shard_frame}
use Rattle.mely_kept.specs.KeptShard.{KeptShardState}
use Rattle.mely_fleet.specs.Fleets.{SeesOn, frame_in, given_in, owed_by}
use Rattle.mely_fleet.specs.Opening.{AreInitialPasses}
use Rattle.mely_fleet.specs.Rows.{fronts}
use Rattle.mely_fleet.specs.Seats.{IsOutsider, IsSeatOf}
use Rattle.mely_fleet.proofs.SideLemmas.{is_taken, owes_kept, takes_no_finish}
use Rattle.mely_fleet.proofs.SeatLemmas.{first_seat}
use Rattle.test_fleet.specs.Callers.{IsCaller, MayFinish}

-- what contracts see of the state
abbrev pub tally_words : TrailWords (Logged ℕ) (Unit {0})
tally_words = record { trail_of = λ s. s.log.events; colour_of = λ s. s.log.colour; frame_of = λ s. tt }

module _ {S P F : Type 0} {g : _} (t : TrailWords S F) (fits : F → Colour → Event → Option P → Type 0) (fleet : FleetOf (KeptShardState S P) (Note S P) (ShardFrame S F)) (before after : PassesOf (KeptShardState S P) (Note S P) (ShardFrame S F) g) (same : after.number ≡ before.number) (c : Colour) (answer : Result (TurnState S P) NoTake)
    (sees : SeesOn fleet (shard_of fleet.setup c) before after (λ setup n. TakesAt t fits setup (frame_in (shard_frame t.frame_of) fleet) (given_in (shard_frame t.frame_of) fleet c) n c answer)) where
  -- a turn that is out may still be finished after another take by its core
  pub may_still : (turn : TurnState S P) → MayFinish t fleet before turn → MayFinish t fleet after turn
  may_still turn may = record {
    colour = may.colour;
    owed =
        subst (λ m. IsOwed m (entries_of (front_for fleet.setup (fronts after.shards.items) turn.colour)) turn.colour turn.core turn.count (t.trail_of turn.state ++ events_of turn.events)) (sym same)
        (owes_kept fleet.setup before.number (shard_of fleet.setup c) (fronts before.shards.items) (fronts after.shards.items) _ sees turn.colour (λ point does. takes_no_finish t fits fleet.setup (frame_in (shard_frame t.frame_of) fleet) (given_in (shard_frame t.frame_of) fleet c) before.number c answer turn.colour point _ does) turn.core turn.count _ may.owed);
    coloured = may.coloured;
    framed = may.framed;
  }

-- the turn that a take gives may be finished
pub may_finish : {S P F : Type 0} {g : _} (t : TrailWords S F) (fits : F → Colour → Event → Option P → Type 0) (fleet : FleetOf (KeptShardState S P) (Note S P) (ShardFrame S F)) (before after : PassesOf (KeptShardState S P) (Note S P) (ShardFrame S F) g) (c : Colour) (answer : Result (TurnState S P) NoTake) → c.0 < colours_of fleet.setup → after.number ≡ before.number
    → SeesOn fleet (shard_of fleet.setup c) before after (λ setup n. TakesAt t fits setup (frame_in (shard_frame t.frame_of) fleet) (given_in (shard_frame t.frame_of) fleet c) n c answer) → IfOk answer (MayFinish t fleet after)
may_finish t fits fleet before after c (Err why) low same sees = tt
may_finish {S} {P} {F} t fits fleet before after c (Ok turn) low same sees =
    let setup_of : Unit {0} → Setup = λ _. fleet.setup in
    let core_of : Unit {0} → ℕ = λ _. before.number in
    let frame_of : Unit {0} → F = λ _. frame_in (shard_frame t.frame_of) fleet in
    let owes : Unit {0} → Colour → ℕ → ℕ → List Event → Type 0 = λ _ d core count trail. owed_by fleet after d core count trail in
    let taken = is_taken t fits setup_of core_of frame_of (given_in (shard_frame t.frame_of) fleet c) owes tt tt c _ _ _ (Ok turn) sees.seen
    (λ core count trail owed. subst (λ m. IsOwed m (entries_of (front_for fleet.setup (fronts after.shards.items) c)) c core count trail) (sym same) owed) in
    record {
      colour = subst (λ (d : Colour). d.0 < colours_of fleet.setup) (sym taken.colour) low;
      owed = subst (λ d. owed_by fleet after d turn.core turn.count (t.trail_of turn.state ++ events_of turn.events)) (sym taken.colour) taken.owed;
      coloured = taken.of_colour ∙ sym taken.colour;
      framed = taken.of_frame;
    }

-- an event more of a turn was run
pub may_onward : {S P F : Type 0} {g : _} (t : TrailWords S F) (fleet : FleetOf (KeptShardState S P) (Note S P) (ShardFrame S F)) (own : PassesOf (KeptShardState S P) (Note S P) (ShardFrame S F) g) (old new : TurnState S P) (e : Event × Option P) → MayFinish t fleet own old → old.events ≡ e ∷ new.events → new.colour ≡ old.colour → new.core ≡ old.core → new.count ≡ old.count
    → t.trail_of new.state ≡ t.trail_of old.state ++ e.0 ∷ [] → t.colour_of new.state ≡ t.colour_of old.state → t.frame_of new.state ≡ t.frame_of old.state → MayFinish t fleet own new
may_onward t fleet own old new e may next colour core count trail coloured framed =
    let ran : t.trail_of old.state ++ events_of old.events ≡ t.trail_of new.state ++ events_of new.events =
    ap (λ es. t.trail_of old.state ++ events_of es) next ∙ sym (append_assoc (t.trail_of old.state) (e.0 ∷ []) (events_of new.events)) ∙ ap (λ es. es ++ events_of new.events) (sym trail) in
    record {
      colour = subst (λ (d : Colour). d.0 < colours_of fleet.setup) (sym colour) may.colour;
      owed = subst (λ es. owed_by fleet own new.colour new.core new.count es) ran
          (subst (λ k. owed_by fleet own new.colour new.core k (t.trail_of old.state ++ events_of old.events)) (sym count)
          (subst (λ k. owed_by fleet own new.colour k old.count (t.trail_of old.state ++ events_of old.events)) (sym core)
          (subst (λ d. owed_by fleet own d old.core old.count (t.trail_of old.state ++ events_of old.events)) (sym colour) may.owed)));
      coloured = coloured ∙ may.coloured ∙ sym colour;
      framed = framed ∙ may.framed;
    }

-- a caller at first
pub first_caller : {S P F : Type 0} {g : _} (t : TrailWords S F) (fits : F → Colour → Event → Option P → Type 0) (fleet : FleetOf (KeptShardState S P) (Note S P) (ShardFrame S F)) (n : ℕ) (own : PassesOf (KeptShardState S P) (Note S P) (ShardFrame S F) g) (worker : Option (IdleWorkerState P)) → AreInitialPasses (shard_frame t.frame_of) fleet n own → (own.number < (shape_of fleet.setup).cores → worker ≡ Some (initial_idle_worker fleet.setup own.number)) → IsCaller t.frame_of fits fleet n own worker
first_caller t fits fleet n own worker first is = record {
  passes = first.are;
  numbered = first.numbered;
  sits = λ low. (first_seat t fits fleet n own worker low first (is (subst (λ k. k < (shape_of fleet.setup).cores) (sym first.numbered) low) ∙ ap (λ k. Some (initial_idle_worker fleet.setup k)) first.numbered)).sits;
}

module _ {S P F : Type 0} {g : _} (frame_of : S → F) (fits : F → Colour → Event → Option P → Type 0) (fleet : FleetOf (KeptShardState S P) (Note S P) (ShardFrame S F)) (n : ℕ) (own : PassesOf (KeptShardState S P) (Note S P) (ShardFrame S F) g) (worker : Option (IdleWorkerState P)) (is : IsCaller frame_of fits fleet n own worker) where
  -- a core has a seat
  pub caller_seat : n < (shape_of fleet.setup).cores → IsSeatOf frame_of fits fleet n own worker
  caller_seat low = record { sits = is.sits low; numbered = is.numbered }

  -- and another caller is an outsider
  pub caller_outside : (shape_of fleet.setup).cores ≤ n → IsOutsider (shard_frame frame_of) fleet own
  caller_outside high = record { passes = is.passes; outside = subst (λ k. (shape_of fleet.setup).cores ≤ k) (sym is.numbered) high }

-- what holds at each place of a list holds at each place of it without its
-- last element, and of that
pub each_but_last : {A : Type 0} (Has : ℕ → A → Type 0) (xs : List A) (x : A) → ((n : ℕ) (y : A) → slice_get (xs ++ x ∷ []) n ≡ Some y → Has n y) → ((n : ℕ) (y : A) → slice_get xs n ≡ Some y → Has n y) × Has (length xs) x
each_but_last Has xs x each = (
  λ n y is. each n y (push_other xs x n (λ same. let within = slice_get_within xs n y is in omega (arith, within, same)) ∙ is),
  each (length xs) x (push_at xs x),
)

-- a list that was lent as a slice has what was written there
pub written_back : {A : Type 0} (xs old : List A) (len : ℕ) → length xs ≡ len → take len (xs ++ drop (length xs) old) ≡ xs
written_back xs old len same = ap (λ n. take n (xs ++ drop (length xs) old)) (sym same) ∙ take-append_seam xs (drop (length xs) old)
