-- What the steps of a worker on threads put and run, against what its passes registered and took.
use Rattle.std.proofs.Common.{◌≡◌, ℕ, ◌+◌, ◌==◌, Bool, true, false, List, [], ◌∷◌, ◌++◌, Option, Result, Ok, Err, if◌then◌else◌, take, refl, sym, ◌∙◌, ap, subst, arith, eqb-true, ne_eqb}
use Rattle.std.proofs.lemmas.List.Sums.{sum_by-append}
use Rattle.std.specs.List.{AllByRecursion}
use Rattle.std.specs.Prelude.{sum_by}
use Rattle.mely_event.specs.declared.colour.Colour.{Colour}
use Rattle.mely_event.specs.declared.event.Event.{Event}
use Rattle.mely_event.specs.declared.mark.Mark.{Mark}
use Rattle.mely_event.specs.declared.trail.Trail.{Ghosts as TrailWords}
use Rattle.mely_event.specs.declared.unregistered.Unregistered.{Unregistered}
use Rattle.mely_history.specs.declared.entry.Entry.{Entry}
use Rattle.mely_history.specs.declared.entry.Entry.TheVariants as entries
use Rattle.mely_note.specs.declared.note.Note.{Note}
use Rattle.mely_note.specs.declared.note.Note.TheVariants.{Reg, Take, Fin, Steal}
use Rattle.mely_note.specs.Notes.{entry_of, entries_of, noted_by}
use Rattle.mely_history.specs.declared.no_steal.NoSteal.{NoSteal}
use Rattle.mely_history.specs.declared.no_take.NoTake.{NoTake}
use Rattle.mely_history.specs.declared.registered.Registered.{Registered}
use Rattle.mely_history.specs.declared.setup.Setup.{Setup}
use Rattle.mely_history.specs.declared.stolen.Stolen.{Stolen}
use Rattle.mely_history.specs.History.{registered_of, queued_of}
use Rattle.mely_history.proofs.LegalAccountLemmas.{same_colour}
use Rattle.mely_queue.specs.Turn.{TurnState}
use Rattle.mely_worker.specs.Access.{events_of}
use Rattle.mely_worker.specs.declared.app.App.{Ghosts as AppWords}
use Rattle.mely_worker.specs.declared.delivery.Delivery.TheVariants.{Nothing}
use Rattle.mely_worker.specs.declared.made.Made.{Made}
use Rattle.mely_worker.specs.declared.phase.Phase.TheVariants.{Turning}
use Rattle.mely_worker.specs.Step.{after_take}
use Rattle.mely_worker.specs.Worker.{WorkerState}
use Rattle.mely_weave.specs.Side.{shard_of}
use Rattle.mely_tally.specs.Account.{HandlerRun, IsRunOf, count_put, count_puts, count_run, count_due, count_left, sum_along, taken_of}
use Rattle.mely_tally.proofs.HistoryCountsLemmas.{share_put, share_take}
use Rattle.mely_tally.proofs.StepAccountLemmas.{CountsRegistrations, CountsTakes, RunsWell, runs_of, puts_step, ran_step, well_step}
use Rattle.mely_tally.proofs.WeaveAccountLemmas.{all-append, all_map}
use Rattle.mely_kept.specs.Calls.{RegistersAt, TakesAt, StealsAt}
use Rattle.mely_note.specs.Notes.{snapshot_of}
use Rattle.mely_fleet.specs.Calls.{SeesAt, front_in}
use Rattle.mely_fleet.specs.Work.{Standpoint, words, HasLooked, StepsOn, MakesSteps}
use Rattle.mely_fleet.proofs.SideLemmas.{first_queued}
use Rattle.mely_crew.proofs.OwnLemmas.{own_in, sees_same, sees_more, noted_same}

-- what a pass has registered on a colour, by what it has seen
abbrev pub put_in : {S P : Type 0} → Setup → ℕ → Colour → (Event → ℕ) → List (List (Note S P)) → ℕ
put_in setup n c number fronts = own_in (λ _ entry. share_put c number entry) n fronts (shard_of setup c)

-- what it has taken of a colour
abbrev pub taken_in : {S P : Type 0} → Setup → ℕ → Colour → (List Event → Event → ℕ) → List (List (Note S P)) → ℕ
taken_in setup n c number fronts = own_in (share_take c number) n fronts (shard_of setup c)

-- what runs put and were run on, against what a pass registered and took meanwhile, and what its
-- worker had left before and has left then
pub record WorkerAccount {R S P F : Type 0} (t : TrailWords S F) (fits : F → Colour → Event → Option P → Type 0) (y : AppWords R P S F) (app : R) (setup : Setup) (n : ℕ) (frame : F) (before : List (List (Note S P))) (w : WorkerState S P) (after : List (List (Note S P))) (v : WorkerState S P) (runs : List (HandlerRun S P)) : Type 0 where
  pub each : AllByRecursion (IsRunOf t fits y app setup frame) runs
  pub put : (c : Colour) (number : Event → ℕ) → put_in setup n c number after + count_due c number v ≡ put_in setup n c number before + count_due c number w + sum_by (λ run. count_puts c number run.puts) runs
  pub ran : (c : Colour) (number : List Event → Event → ℕ) → sum_by (count_run t c number) runs + count_left t c number v.phase + taken_in setup n c number before ≡ count_left t c number w.phase + taken_in setup n c number after

-- the shard of another colour may be the same, but what is counted of one colour isn't of the other
pub elsewhere : (setup : Setup) (c d : Colour) (n : ℕ) → (shard_of setup c ≡ shard_of setup d → ⊥) → (if d.0 == c.0 then n else 0) ≡ 0
elsewhere setup c d n apart = ap (λ (b : Bool). if b then n else 0) (ne_eqb d.0 c.0 (λ e. apart (ap (shard_of setup) (sym (same_colour d c e)))))

module _ {R S P F : Type 0} (t : TrailWords S F) (fits : F → Colour → Event → Option P → Type 0) (y : AppWords R P S F) (app : R) (a : Standpoint S P F) (w : WorkerState S P) (made : Made) (b : Standpoint S P F) (v : WorkerState S P) (is : StepsOn t fits y app a w made b v) where
  module _ (c : Colour) where
    abbrev k : ℕ
    k = shard_of a.setup c

    module _ (number : Event → ℕ) where
      abbrev put_to : Standpoint S P F → ℕ
      put_to s = put_in a.setup a.number c number s.fronts

      abbrev of_put : List Entry → Entry → ℕ
      of_put = λ _ entry. share_put c number entry

      put_takes : (d : Colour) (answer : Result (TurnState S P) NoTake) → SeesAt a.setup a.number (shard_of a.setup d) a.fronts b.fronts (TakesAt t fits a.setup a.frame (a.given d) a.number d answer) → put_to b ≡ put_to a
      put_takes d (Ok turn) called = let more = sees_more of_put a.setup a.number (shard_of a.setup d) a.fronts b.fronts called (Take d a.number turn.count called.seen.does.0.0) refl called.seen.does.0.1 k 0 refl (λ _. refl) in omega (arith, more)
      put_takes d (Err why) called = sees_same of_put a.setup a.number (shard_of a.setup d) a.fronts b.fronts called called.seen.does.0 k

      put_steals : (d : Colour) (answer : Result Stolen NoSteal) → SeesAt a.setup a.number (shard_of a.setup d) a.fronts b.fronts (StealsAt a.setup a.number d answer) → put_to b ≡ put_to a
      put_steals d (Ok stolen) called = let more = sees_more of_put a.setup a.number (shard_of a.setup d) a.fronts b.fronts called (Steal d stolen.from a.number called.seen.does.0.0) refl called.seen.does.0.1 k 0 refl (λ _. refl) in omega (arith, more)
      put_steals d (Err why) called = sees_same of_put a.setup a.number (shard_of a.setup d) a.fronts b.fronts called called.seen.does.0 k

      put_counts : CountsRegistrations (words t fits) y app a b w made v c number put_to
      put_counts = record {
        registers = λ d event load reply called. sees_more of_put a.setup a.number (shard_of a.setup d) a.fronts b.fronts called (Reg d event (snapshot_of load) a.number called.seen.does.0.0) refl called.seen.does.0.1 k (count_put c number (d, event, load)) refl (elsewhere a.setup c d (number event));
        refuses = λ d event load back called. sees_same of_put a.setup a.number (shard_of a.setup d) a.fronts b.fronts called called.seen.does.0 k;
        takes = put_takes;
        finishes = λ turn answer called. (let more = sees_more of_put a.setup a.number (shard_of a.setup turn.colour) a.fronts b.fronts called (Fin turn.colour a.number turn.count (snapshot_of turn.state) called.seen.does.0.0) refl called.seen.does.0.1 k 0 refl (λ _. refl) in omega (arith, more));
        steals = put_steals;
        pushes = λ core mark answer called. ap (put_in a.setup a.number c number) called.0;
        pops = λ answer called. ap (put_in a.setup a.number c number) called.0;
        retells = λ core d started worth found called. ap (put_in a.setup a.number c number) called.0;
        picks = λ core answer called. ap (put_in a.setup a.number c number) called.0;
      }

    module _ (number : List Event → Event → ℕ) where
      abbrev taken_to : Standpoint S P F → ℕ
      taken_to s = taken_in a.setup a.number c number s.fronts

      -- a note that takes nothing
      untaken : {Does : List (Note S P) → List (Note S P) → Type 0} (d : Colour) (note : Note S P) (called : SeesAt a.setup a.number (shard_of a.setup d) a.fronts b.fronts Does) → noted_by note ≡ a.number → front_in b.fronts (shard_of a.setup d) ≡ called.seen.point ++ note ∷ [] → share_take c number (entries_of called.seen.point) (entry_of note) ≡ 0 → taken_to b ≡ taken_to a
      untaken d note called by grew none = let more = sees_more (share_take c number) a.setup a.number (shard_of a.setup d) a.fronts b.fronts called note by grew k 0 none (λ _. refl) in omega (arith, more)

      taken_registers : (d : Colour) (event : Event) (load : Option P) (answer : Result Registered (Unregistered P)) → SeesAt a.setup a.number (shard_of a.setup d) a.fronts b.fronts (RegistersAt a.setup a.number d event load answer) → taken_to b ≡ taken_to a
      taken_registers d event load (Ok reply) called = untaken d (Reg d event (snapshot_of load) a.number called.seen.does.0.0) called refl called.seen.does.0.1 refl
      taken_registers d event load (Err back) called = sees_same (share_take c number) a.setup a.number (shard_of a.setup d) a.fronts b.fronts called called.seen.does.0 k

      taken_steals : (d : Colour) (answer : Result Stolen NoSteal) → SeesAt a.setup a.number (shard_of a.setup d) a.fronts b.fronts (StealsAt a.setup a.number d answer) → taken_to b ≡ taken_to a
      taken_steals d (Ok stolen) called = untaken d (Steal d stolen.from a.number called.seen.does.0.0) called refl called.seen.does.0.1 refl
      taken_steals d (Err why) called = sees_same (share_take c number) a.setup a.number (shard_of a.setup d) a.fronts b.fronts called called.seen.does.0 k

      taken_takes : (mark : Mark) (turn : TurnState S P) → SeesAt a.setup a.number (shard_of a.setup mark.colour) a.fronts b.fronts (TakesAt t fits a.setup a.frame (a.given mark.colour) a.number mark.colour (Ok turn)) → v ≡ after_take w mark (Ok turn) → taken_to b ≡ taken_to a + count_left t c number (Turning turn Nothing [])
      taken_takes mark turn called becomes =
          let d = mark.colour in
          let point = entries_of called.seen.point in
          let given = called.seen.does.1 in
          let trail : t.trail_of turn.state ≡ taken_of point d = given.trailed ∙ ap (λ n. take n (registered_of point d)) (sym given.allowed.ready.at_rest) in
          let counted : (own : Bool) → (d.0 == c.0) ≡ own → (if own then sum_along number (taken_of point c) (take turn.count (queued_of point c)) else 0) ≡ (if own then sum_along number (t.trail_of turn.state) (events_of turn.events) else 0) = for point d trail (first_queued t fits a.setup a.frame (a.given d) a.number d turn called.seen.point given) in
          let of_turn : share_take c number point (entries.Take d a.number turn.count) ≡ count_left t c number (Turning turn Nothing []) = counted (d.0 == c.0) refl ∙ ap (λ (z : Colour). if z.0 == c.0 then sum_along number (t.trail_of turn.state) (events_of turn.events) else 0) (sym given.of_colour) in
          sees_more (share_take c number) a.setup a.number (shard_of a.setup d) a.fronts b.fronts called (Take d a.number turn.count called.seen.does.0.0) refl called.seen.does.0.1 k (count_left t c number (Turning turn Nothing [])) of_turn
          (λ apart. sym of_turn ∙ elsewhere a.setup c d _ apart)
        where
          for : (point : List Entry) (d : Colour) → t.trail_of turn.state ≡ taken_of point d → events_of turn.events ≡ take turn.count (queued_of point d) → (own : Bool) → (d.0 == c.0) ≡ own → (if own then sum_along number (taken_of point c) (take turn.count (queued_of point c)) else 0) ≡ (if own then sum_along number (t.trail_of turn.state) (events_of turn.events) else 0)
          for point d trail events true same =
              let is_c : d ≡ c = same_colour d c (eqb-true d.0 c.0 same) in
              ap (λ (z : Colour). sum_along number (taken_of point z) (take turn.count (queued_of point z))) (sym is_c)
              ∙ ap (λ l. sum_along number l (take turn.count (queued_of point d))) (sym trail)
              ∙ ap (λ l. sum_along number (t.trail_of turn.state) l) (sym events)
          for point d trail events false same = refl

      taken_counts : CountsTakes (words t fits) y app a b w made v t c number taken_to
      taken_counts = record {
        takes = taken_takes;
        untaken = λ d why called. sees_same (share_take c number) a.setup a.number (shard_of a.setup d) a.fronts b.fronts called called.seen.does.0 k;
        registers = taken_registers;
        finishes = λ turn answer called. untaken turn.colour (Fin turn.colour a.number turn.count (snapshot_of turn.state) called.seen.does.0.0) called refl called.seen.does.0.1 refl;
        steals = taken_steals;
        pushes = λ core mark answer called. ap (taken_in a.setup a.number c number) called.0;
        pops = λ answer called. ap (taken_in a.setup a.number c number) called.0;
        retells = λ core d started worth found called. ap (taken_in a.setup a.number c number) called.0;
        picks = λ core answer called. ap (taken_in a.setup a.number c number) called.0;
      }

  made_runs : List (HandlerRun S P)
  made_runs = runs_of (words t fits) y app a b w made v is.steps

  made_well : AllByRecursion (RunsWell (words t fits) y app a b w made v t fits (λ d core count trail other one two. one.trailed ∙ sym two.trailed) is.may is.may_then) made_runs
  unfolding made_runs
  made_well = well_step (words t fits) y app a b w made v t fits (λ d core count trail other one two. one.trailed ∙ sym two.trailed) is.may is.may_then is.steps

  step_account : WorkerAccount t fits y app a.setup a.number a.frame a.fronts w b.fronts v made_runs
  unfolding made_runs
  step_account = record {
    each = all_map _ (IsRunOf t fits y app a.setup a.frame) made_runs (λ run both. both.0) made_well;
    put = λ c number. puts_step (words t fits) y app a b w made v c number (put_to c number) (put_counts c number) is.steps;
    ran = λ c number. ran_step (words t fits) y app a b w made v t c number (taken_to c number) (taken_counts c number) is.steps (all_map _ (λ run. t.trail_of run.becomes ≡ t.trail_of run.state ++ run.event ∷ []) made_runs (λ run both. both.1) made_well);
  }

module _ {R S P F : Type 0} (t : TrailWords S F) (fits : F → Colour → Event → Option P → Type 0) (y : AppWords R P S F) (app : R) (setup : Setup) (n : ℕ) (frame : F) where
  -- looks count nothing
  looked_same : (of : List Entry → Entry → ℕ) (a b : Standpoint S P F) → a.number ≡ n → HasLooked a b → (k : ℕ) → own_in of n b.fronts k ≡ own_in of n a.fronts k
  looked_same of a b same looked k = subst (λ m. own_in of m b.fronts k ≡ own_in of m a.fronts k) same (noted_same of a.number (front_in a.fronts k) (front_in b.fronts k) (looked.others k))

  -- all steps together
  pub steps_account : (steps : List Made) (a b : Standpoint S P F) (w v : WorkerState S P) → a.setup ≡ setup → a.number ≡ n → a.frame ≡ frame → MakesSteps t fits y app steps a w b v
      → (runs : List (HandlerRun S P)) × WorkerAccount t fits y app setup n frame a.fronts w b.fronts v runs
  steps_account [] a b w v of_setup of_number of_frame (looked, same) = (
    [],
    record {
      each = tt;
      put = λ c number. (let due = ap (λ x. count_due c number x) same in let seen = looked_same (λ _ entry. share_put c number entry) a b of_number looked (shard_of setup c) in omega (arith, due, seen));
      ran = λ c number. (let left = ap (λ (x : WorkerState S P). count_left t c number x.phase) same in let seen = looked_same (share_take c number) a b of_number looked (shard_of setup c) in omega (arith, left, seen));
    },
  )
  steps_account (step ∷ later) a b w v of_setup of_number of_frame (c, d, u, looked, one, rest) =
      let c_setup : c.setup ≡ setup = looked.setup ∙ of_setup in
      let c_number : c.number ≡ n = looked.number ∙ of_number in
      let c_frame : c.frame ≡ frame = looked.frame ∙ of_frame in
      let first = made_runs t fits y app c w step d u one in
      let here : WorkerAccount t fits y app setup n frame c.fronts w d.fronts u first =
      subst (λ f. WorkerAccount t fits y app setup n f c.fronts w d.fronts u first) c_frame
      (subst (λ m. WorkerAccount t fits y app setup m c.frame c.fronts w d.fronts u first) c_number
      (subst (λ s. WorkerAccount t fits y app s c.number c.frame c.fronts w d.fronts u first) c_setup (step_account t fits y app c w step d u one))) in
      let more = steps_account later d b u v (one.stays.setup ∙ c_setup) (one.stays.core ∙ c_number) (one.stays.frame ∙ c_frame) rest in (
        first ++ more.0,
        record {
          each = all-append (IsRunOf t fits y app setup frame) first more.0 here.each more.1.each;
          put = λ z number.
              let seen = looked_same (λ _ entry. share_put z number entry) a c of_number looked (shard_of setup z) in
              let one = here.put z number in
              let rest = more.1.put z number in
              let both = sum_by-append (λ (run : HandlerRun S P). count_puts z number run.puts) first more.0 in
              omega (arith, seen, one, rest, both);
          ran = λ z number.
              let seen = looked_same (share_take z number) a c of_number looked (shard_of setup z) in
              let one = here.ran z number in
              let rest = more.1.ran z number in
              let both = sum_by-append (count_run t z number) first more.0 in
              omega (arith, seen, one, rest, both);
        },
      )
