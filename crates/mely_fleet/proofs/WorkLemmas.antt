-- What the steps of a worker leave of what its passes have seen.
use Rattle.std.proofs.Common.{◌≡◌, ℕ, zero, suc, ◌⊎◌, List, [], ◌∷◌, ◌++◌, Option, Some, None, Result, Ok, Err, Bool, true, false, refl, sym, ◌∙◌, ap, subst, inl, inr, ⊎_elim, append_assoc, ◌==◌, ◌&&◌, if◌then◌else◌, eq-eqb, eqb-true}
use Rattle.std.specs.Option.{option_or}
use Rattle.std.specs.Prelude.{slice_get, IsTrue}
use Rattle.std.proofs.lemmas.List.{append-nil}
use Rattle.std.proofs.lemmas.List.Sums.{fold-append}
use Rattle.std.proofs.lemmas.Bool.{cases_eq}
use Rattle.mely_note.specs.declared.note.Note.{Note}
use Rattle.mely_event.specs.declared.colour.Colour.{Colour}
use Rattle.mely_event.specs.declared.event.Event.{Event}
use Rattle.mely_event.specs.declared.mark.Mark.{Mark}
use Rattle.mely_event.specs.declared.unregistered.Unregistered.{Unregistered}
use Rattle.mely_event.specs.declared.trail.Trail.{Ghosts as TrailWords}
use Rattle.mely_history.specs.declared.setup.Setup.{Setup}
use Rattle.mely_history.specs.declared.entry.Entry.{Entry}
use Rattle.mely_history.specs.declared.entry.Entry.TheVariants.{Reg, Take, Fin, Steal}
use Rattle.mely_note.specs.declared.note.Note.TheVariants as notes
use Rattle.mely_note.specs.Notes.{entries_of, latest_in, noted_by}
use Rattle.mely_fleet.proofs.FrontLemmas.{others_of_entries, entries_more}
use Rattle.mely_history.specs.declared.registered.Registered.{Registered}
use Rattle.mely_history.specs.declared.no_take.NoTake.{NoTake}
use Rattle.mely_history.specs.declared.no_take.NoTake.TheVariants as no_take
use Rattle.mely_history.specs.declared.no_steal.NoSteal.{NoSteal}
use Rattle.mely_history.specs.declared.no_steal.NoSteal.TheVariants as no_steal
use Rattle.mely_history.specs.declared.stolen.Stolen.{Stolen}
use Rattle.mely_history.specs.declared.after.After.{After}
use Rattle.mely_history.specs.declared.after.After.TheVariants.{More, Idle}
use Rattle.mely_history.specs.Entries.{change_on}
use Rattle.mely_history.specs.Owing.{last_change, IsOwed}
use Rattle.mely_history.proofs.OwingLemmas.{last_change-others}
use Rattle.mely_lock.specs.Seen.{OthersSince}
use Rattle.mely_queue.specs.Turn.{TurnState}
use Rattle.mely_worker.specs.declared.phase.Phase.{Phase}
use Rattle.mely_worker.specs.declared.phase.Phase.TheVariants.{Free, Popped, Picked, Landing, Pushing, Turning}
use Rattle.mely_worker.specs.Delivery.{Delivers}
use Rattle.mely_worker.specs.declared.delivery.Delivery.{Delivery}
use Rattle.mely_worker.specs.declared.delivery.Delivery.TheVariants.{Nothing, PushMark, Report}
use Rattle.mely_worker.specs.declared.made.Made.{Made}
use Rattle.mely_worker.specs.declared.app.App.{Ghosts as AppWords}
use Rattle.mely_worker.specs.Conditions.{MayStep, PhaseMayStep}
use Rattle.mely_worker.specs.Phase.{is_free}
use Rattle.mely_worker.specs.declared.access.Access.{Ghosts as AccessWords}
use Rattle.mely_worker.proofs.ViewsLemmas.{steps_under}
use Rattle.mely_worker.specs.Worker.{WorkerState}
use Rattle.mely_worker.specs.Step.{Steps, StepsFrom, StepsTurning, StepsPuts, StepsTurn, StepsHunt, StepsFree, after_register, after_finish, after_take, after_steal, after_pop, after_pick}
use Rattle.mely_weave.specs.Hands.{colour_in, colour_run_by}
use Rattle.mely_weave.specs.Side.{shard_of}
use Rattle.mely_kept.specs.Calls.{RegistersAt, TakesAt, FinishesAt, StealsAt, LooksAt, IsSeen}
use Rattle.mely_note.specs.Notes.{snapshot_of}
use Rattle.mely_fleet.specs.Calls.{SeesAt, front_in, front_for}
use Rattle.mely_kept_chain.specs.Chains.{DeliversAt, ReachesChain, PushesAt, PopsAt, RetellsAt, PicksAt}
use Rattle.mely_fleet.specs.Fleets.{chain_frame_for}
use Rattle.mely_fleet.specs.Work.{Standpoint, words, SeesMore, HasFinishedBut, HasFinished, WorksOn}

-- what is seen after a call is what was seen before, the notes of others, and at most one more
abbrev pub Adds : {S P : Type 0} → List (Note S P) → List (Note S P) → Type 0
Adds {S} {P} point after = (after ≡ point) ⊎ ((note : Note S P) × (after ≡ point ++ note ∷ []))

seen_more : {S P : Type 0} (setup : Setup) (n known : ℕ) (front after : List (Note S P)) (Does : List (Note S P) → List (Note S P) → Type 0) → (seen : IsSeen setup n known front after Does) → Adds seen.point after → (more : List (Note S P)) × (after ≡ front ++ more)
seen_more {S} {P} setup n known front after Does seen adds =
    let others = seen.others in
    ⊎_elim
    (λ (same : after ≡ seen.point). (others.0, same ∙ others.1))
    (λ (one : (note : Note S P) × (after ≡ seen.point ++ note ∷ [])). (others.0 ++ one.0 ∷ [], one.1 ∙ ap (λ h. h ++ one.0 ∷ []) others.1 ∙ append_assoc front others.0 (one.0 ∷ [])))
    adds

module _ {S P F : Type 0} (a b : Standpoint S P F) where
  -- a call on a shard shows more of it, and of the others nothing
  sees_more : (g : ℕ) (Does : List (Note S P) → List (Note S P) → Type 0) → SeesAt a.setup a.number g a.fronts b.fronts Does → ((point : List (Note S P)) → Does point (front_in b.fronts g) → Adds point (front_in b.fronts g)) → SeesMore a b
  sees_more g Does sees adds k = ⊎_elim
      (λ (same : k ≡ g). subst (λ j. (more : List (Note S P)) × (front_in b.fronts j ≡ front_in a.fronts j ++ more)) (sym same) (seen_more a.setup a.number (latest_in a.fronts) (front_in a.fronts g) (front_in b.fronts g) Does sees.seen (adds sees.seen.point sees.seen.does)))
      (λ (other : k ≡ g → ⊥). ([], sees.others k other ∙ sym (append-nil (front_in a.fronts k))))
      (cases_eq k g)

  sees_same : b.fronts ≡ a.fronts → SeesMore a b
  sees_same same k = ([], ap (λ fs. front_in fs k) same ∙ sym (append-nil (front_in a.fronts k)))

module _ {S P : Type 0} where
  -- what each call adds
  register_adds : (setup : Setup) (n : ℕ) (c : Colour) (event : Event) (load : Option P) (answer : Result Registered (Unregistered P)) (point after : List (Note S P)) → RegistersAt setup n c event load answer point after → Adds point after
  register_adds setup n c event load (Ok reply) point after does = inr (notes.Reg c event (snapshot_of load) n does.0.0, does.0.1)
  register_adds setup n c event load (Err back) point after does = inl does.0

  take_adds : {F : Type 0} (t : TrailWords S F) (fits : F → Colour → Event → Option P → Type 0) (setup : Setup) (f : F) (first : Option S) (n : ℕ) (c : Colour) (answer : Result (TurnState S P) NoTake) (point after : List (Note S P)) → TakesAt t fits setup f first n c answer point after → Adds point after
  take_adds t fits setup f first n c (Ok turn) point after does = inr (notes.Take c n turn.count does.0.0, does.0.1)
  take_adds t fits setup f first n c (Err why) point after does = inl does.0

  steal_adds : (setup : Setup) (n : ℕ) (c : Colour) (answer : Result Stolen NoSteal) (point after : List (Note S P)) → StealsAt setup n c answer point after → Adds point after
  steal_adds setup n c (Ok stolen) point after does = inr (notes.Steal c stolen.from n does.0.0, does.0.1)
  steal_adds setup n c (Err why) point after does = inl does.0

-- the last change of a colour by the caller, after one more entry of its own
change_after : (n : ℕ) (c : Colour) (point after : List Entry) (entry : Entry) → after ≡ point ++ entry ∷ [] → last_change n c after ≡ option_or (change_on n c entry) (last_change n c point)
change_after n c point after entry is = ap (last_change n c) is ∙ fold-append (λ found e. option_or (change_on n c e) found) None point (entry ∷ [])

change_at_point : {S P : Type 0} (n : ℕ) (c : Colour) (front point : List (Note S P)) → OthersSince noted_by n front point → last_change n c (entries_of point) ≡ last_change n c (entries_of front)
change_at_point n c front point others = let since = others_of_entries n front point others in ap (last_change n c) since.1 ∙ last_change-others n c (entries_of front) since.0 since.2

-- a call adds this entry, or none
abbrev AddsEntry : Option Entry → List Entry → List Entry → Type 0
AddsEntry None point after = after ≡ point
AddsEntry (Some entry) point after = after ≡ point ++ entry ∷ []

-- the last change of a colour after it
abbrev changed : ℕ → Colour → Option Entry → Option Entry → Option Entry
changed n k None was = was
changed n k (Some entry) was = option_or (change_on n k entry) was

changed_at : (n : ℕ) (k : Colour) (own : Option Entry) (point after : List Entry) → AddsEntry own point after → last_change n k after ≡ changed n k own (last_change n k point)
changed_at n k None point after same = ap (last_change n k) same
changed_at n k (Some entry) point after more = change_after n k point after entry more

module _ {S P F : Type 0} (a b : Standpoint S P F) (same_setup : b.setup ≡ a.setup) (same_number : b.number ≡ a.number) where
  -- where each take was finished but one, so it is after a call
  call_finished : (d : Colour) (own : Option Entry) (r r' : Option Colour) (Does : List (Note S P) → List (Note S P) → Type 0) → SeesAt a.setup a.number (shard_of a.setup d) a.fronts b.fronts Does
      → ((point : List (Note S P)) → Does point (front_in b.fronts (shard_of a.setup d)) → AddsEntry own (entries_of point) (entries_of (front_in b.fronts (shard_of a.setup d))))
      → ((k : Colour) → (shard_of a.setup k ≡ shard_of a.setup d → ⊥) → r ≡ Some k → r' ≡ Some k)
      → ((k : Colour) (core count : ℕ) (was : Option Entry) → changed a.number k own was ≡ Some (Take k core count) → ((core count : ℕ) → was ≡ Some (Take k core count) → r ≡ Some k) → r' ≡ Some k)
      → HasFinishedBut a r → HasFinishedBut b r'
  call_finished d own r r' Does sees adds elsewhere here before k core count is =
      let taken : last_change a.number k (entries_of (front_in b.fronts (shard_of a.setup k))) ≡ Some (Take k core count) = subst (λ (s : Setup). last_change a.number k (entries_of (front_in b.fronts (shard_of s k))) ≡ Some (Take k core count)) same_setup (subst (λ n. last_change n k (entries_of (front_in b.fronts (shard_of b.setup k))) ≡ Some (Take k core count)) same_number is) in
      ⊎_elim
      (λ (same : shard_of a.setup k ≡ shard_of a.setup d).
      let g = shard_of a.setup d in
      let now : changed a.number k own (last_change a.number k (entries_of sees.seen.point)) ≡ Some (Take k core count) = sym (changed_at a.number k own (entries_of sees.seen.point) (entries_of (front_in b.fronts g)) (adds sees.seen.point sees.seen.does)) ∙ ap (λ j. last_change a.number k (entries_of (front_in b.fronts j))) (sym same) ∙ taken in
      here k core count (last_change a.number k (entries_of sees.seen.point)) now (λ core' count' was.
      before k core' count' (ap (λ j. last_change a.number k (entries_of (front_in a.fronts j))) same ∙ sym (change_at_point a.number k (front_in a.fronts g) sees.seen.point sees.seen.others) ∙ was)))
      (λ (other : shard_of a.setup k ≡ shard_of a.setup d → ⊥). elsewhere k other (before k core count (sym (ap (λ h. last_change a.number k (entries_of h)) (sees.others (shard_of a.setup k) other)) ∙ taken)))
      (cases_eq (shard_of a.setup k) (shard_of a.setup d))

  -- a look, or a call on a chain, leaves it so
  same_finished : (r : Option Colour) → b.fronts ≡ a.fronts → HasFinishedBut a r → HasFinishedBut b r
  same_finished r same before k core count is =
      before k core count (ap (λ fs. last_change a.number k (entries_of (front_in fs (shard_of a.setup k)))) (sym same) ∙ subst (λ (s : Setup). last_change a.number k (entries_of (front_in b.fronts (shard_of s k))) ≡ Some (Take k core count)) same_setup (subst (λ n. last_change n k (entries_of (front_in b.fronts (shard_of b.setup k))) ≡ Some (Take k core count)) same_number is))

  register_finished : (d : Colour) (event : Event) (load : Option P) (answer : Result Registered (Unregistered P)) (r : Option Colour) → SeesAt a.setup a.number (shard_of a.setup d) a.fronts b.fronts (RegistersAt a.setup a.number d event load answer) → HasFinishedBut a r → HasFinishedBut b r
  register_finished d event load (Ok reply) r sees = call_finished d (Some (Reg d event a.number)) r r _ sees (λ point does. entries_more point _ (notes.Reg d event (snapshot_of load) a.number does.0.0) does.0.1) (λ k other is. is) (λ k core count was is taken. taken core count is)
  register_finished d event load (Err back) r sees = call_finished d None r r _ sees (λ point does. ap (λ h. entries_of h) does.0) (λ k other is. is) (λ k core count was is taken. taken core count is)

  steal_finished : (d : Colour) (answer : Result Stolen NoSteal) → SeesAt a.setup a.number (shard_of a.setup d) a.fronts b.fronts (StealsAt a.setup a.number d answer) → HasFinishedBut a None → HasFinishedBut b None
  steal_finished d (Err why) sees = call_finished d None None None _ sees (λ point does. ap (λ h. entries_of h) does.0) (λ k other is. is) (λ k core count was is taken. taken core count is)
  steal_finished d (Ok stolen) sees = call_finished d (Some (Steal d stolen.from a.number)) None None _ sees (λ point does. entries_more point _ (notes.Steal d stolen.from a.number does.0.0) does.0.1) (λ k other is. is) here where
    here : (k : Colour) (core count : ℕ) (was : Option Entry) → changed a.number k (Some (Steal d stolen.from a.number)) was ≡ Some (Take k core count) → ((core count : ℕ) → was ≡ Some (Take k core count) → None ≡ Some k) → None ≡ Some k
    here k core count was is taken = for ((a.number == a.number) && (d.0 == k.0)) is where
      for : (own : Bool) → option_or (if own then Some (Steal k stolen.from a.number) else None) was ≡ Some (Take k core count) → None ≡ Some k
      for true is = cc
      for false is = taken core count is

  finish_finished : (turn : TurnState S P) (answer : After) → SeesAt a.setup a.number (shard_of a.setup turn.colour) a.fronts b.fronts (FinishesAt a.setup a.number turn answer) → HasFinishedBut a (Some turn.colour) → HasFinishedBut b None
  finish_finished turn answer sees = call_finished turn.colour (Some (Fin turn.colour a.number turn.count)) (Some turn.colour) None _ sees (λ point does. entries_more point _ (notes.Fin turn.colour a.number turn.count (snapshot_of turn.state) does.0.0) does.0.1) elsewhere here where
    elsewhere : (k : Colour) → (shard_of a.setup k ≡ shard_of a.setup turn.colour → ⊥) → Some turn.colour ≡ Some k → None ≡ Some k
    elsewhere k other is = let same : turn.colour ≡ k = cc in absurd (other (ap (shard_of a.setup) (sym same)))

    here : (k : Colour) (core n : ℕ) (was : Option Entry) → changed a.number k (Some (Fin turn.colour a.number turn.count)) was ≡ Some (Take k core n) → ((core n : ℕ) → was ≡ Some (Take k core n) → Some turn.colour ≡ Some k) → None ≡ Some k
    here k core n was is taken = for (turn.colour.0 == k.0) refl (ap (λ own. option_or (if own && (turn.colour.0 == k.0) then Some (Fin k a.number turn.count) else None) was) (sym (eq-eqb a.number a.number refl)) ∙ is) where
      for : (own : Bool) → (turn.colour.0 == k.0) ≡ own → option_or (if own then Some (Fin k a.number turn.count) else None) was ≡ Some (Take k core n) → None ≡ Some k
      for true of_d is = cc
      for false of_d is =
          let both = taken core n is in
          let same : turn.colour ≡ k = cc in
          let wrong : true ≡ false = sym (eq-eqb turn.colour.0 k.0 (ap (λ (x : Colour). x.0) same)) ∙ of_d in
          cc

  take_finished : (t : TrailWords S F) (fits : F → Colour → Event → Option P → Type 0) (d : Colour) (turn : TurnState S P) → SeesAt a.setup a.number (shard_of a.setup d) a.fronts b.fronts (TakesAt t fits a.setup a.frame (a.given d) a.number d (Ok turn)) → HasFinishedBut a None → HasFinishedBut b (Some turn.colour)
  take_finished t fits d turn sees = call_finished d (Some (Take d a.number turn.count)) None (Some turn.colour) _ sees (λ point does. entries_more point _ (notes.Take d a.number turn.count does.0.0) does.0.1) (λ k other is. cc) here where
    of_d : turn.colour ≡ d
    of_d = sees.seen.does.1.of_colour

    here : (k : Colour) (core count : ℕ) (was : Option Entry) → changed a.number k (Some (Take d a.number turn.count)) was ≡ Some (Take k core count) → ((core count : ℕ) → was ≡ Some (Take k core count) → None ≡ Some k) → Some turn.colour ≡ Some k
    here k core count was is taken = for (d.0 == k.0) refl (ap (λ own. option_or (if own && (d.0 == k.0) then Some (Take k a.number turn.count) else None) was) (sym (eq-eqb a.number a.number refl)) ∙ is) where
      for : (own : Bool) → (d.0 == k.0) ≡ own → option_or (if own then Some (Take k a.number turn.count) else None) was ≡ Some (Take k core count) → Some turn.colour ≡ Some k
      for true same is = ap (λ c. Some c) (of_d ∙ ap (λ n. record { 0 = n }) (eqb-true d.0 k.0 same))
      for false same is = let none = taken core count is in cc

  untaken_finished : (t : TrailWords S F) (fits : F → Colour → Event → Option P → Type 0) (d : Colour) (why : NoTake) → SeesAt a.setup a.number (shard_of a.setup d) a.fronts b.fronts (TakesAt t fits a.setup a.frame (a.given d) a.number d (Err why)) → HasFinishedBut a None → HasFinishedBut b None
  untaken_finished t fits d why sees = call_finished d None None None _ sees (λ point does. ap (λ h. entries_of h) does.0) (λ k other is. is) (λ k core count was is taken. taken core count is)

  module _ {R : Type 0} (t : TrailWords S F) (fits : F → Colour → Event → Option P → Type 0) (y : AppWords R P S F) (app : R) (w : WorkerState S P) (step : Made) (v : WorkerState S P) where
    -- by what the worker runs then
    run_then : (u : WorkerState S P) → v ≡ u → HasFinishedBut b (colour_run_by u) → HasFinishedBut b (colour_run_by v)
    run_then u is = subst (HasFinishedBut b) (ap (λ (x : WorkerState S P). colour_run_by x) (sym is))

    after_take_finished : (mark : Mark) (answer : Result (TurnState S P) NoTake) → SeesAt a.setup a.number (shard_of a.setup mark.colour) a.fronts b.fronts (TakesAt t fits a.setup a.frame (a.given mark.colour) a.number mark.colour answer) → HasFinishedBut a None → HasFinishedBut b (colour_run_by (after_take w mark answer))
    after_take_finished mark (Ok turn) sees before = take_finished t fits mark.colour turn sees before
    after_take_finished mark (Err no_take.Memory) sees before = untaken_finished t fits mark.colour no_take.Memory sees before
    after_take_finished mark (Err (no_take.Elsewhere owner)) sees before = untaken_finished t fits mark.colour (no_take.Elsewhere owner) sees before
    after_take_finished mark (Err (no_take.Busy core)) sees before = untaken_finished t fits mark.colour (no_take.Busy core) sees before
    after_take_finished mark (Err (no_take.Empty registered)) sees before = untaken_finished t fits mark.colour (no_take.Empty registered) sees before

    after_steal_finished : (mark : Mark) (victim : ℕ) (answer : Result Stolen NoSteal) → HasFinishedBut b None → HasFinishedBut b (colour_run_by (after_steal w mark victim answer))
    after_steal_finished mark victim (Ok stolen) after = after
    after_steal_finished mark victim (Err no_steal.Memory) after = after
    after_steal_finished mark victim (Err (no_steal.Pinned colour)) after = after
    after_steal_finished mark victim (Err no_steal.Own) after = after
    after_steal_finished mark victim (Err (no_steal.Busy core)) after = after
    after_steal_finished mark victim (Err (no_steal.Empty registered)) after = after
    after_steal_finished mark victim (Err (no_steal.Cheap worth)) after = after

    after_finish_finished : (c : Colour) (answer : After) → HasFinishedBut b None → HasFinishedBut b (colour_run_by (after_finish w c answer))
    after_finish_finished c (More started worth) after = after
    after_finish_finished c Idle after = after

    after_register_finished : (turn : TurnState S P) (rest : List (Colour × Event × Option P)) (put : Colour × Event × Option P) (answer : Result Registered (Unregistered P)) → HasFinishedBut b (Some turn.colour) → HasFinishedBut b (colour_run_by (after_register w turn rest put answer))
    after_register_finished turn rest put (Ok reply) after = after
    after_register_finished turn rest put (Err back) after = after

    after_pop_finished : (answer : Option Mark) → HasFinishedBut b None → HasFinishedBut b (colour_run_by (after_pop w answer))
    after_pop_finished None after = after
    after_pop_finished (Some mark) after = after

    after_pick_finished : (place victim : ℕ) (answer : Option Mark) → HasFinishedBut b None → HasFinishedBut b (colour_run_by (after_pick w place victim answer))
    after_pick_finished place victim None after = after
    after_pick_finished place victim (Some mark) after = after

    turn_finished : (turn : TurnState S P) (left : List (Event × Option P)) → HasFinishedBut a (Some turn.colour) → StepsTurn (words t fits) y app a w step b v turn left → HasFinishedBut b (colour_run_by v)
    turn_finished turn [] before line = run_then (after_finish w turn.colour line.answer) line.becomes (after_finish_finished turn.colour line.answer (finish_finished turn line.answer line.called before))
    turn_finished turn (event ∷ rest) before runs = subst (HasFinishedBut b) (ap (λ (x : WorkerState S P). colour_run_by x) (sym runs.becomes)) (same_finished (Some turn.colour) (ap (λ (s : Standpoint S P F). s.fronts) runs.untouched) before)

    puts_finished : (turn : TurnState S P) (puts : List (Colour × Event × Option P)) → HasFinishedBut a (Some turn.colour) → StepsPuts (words t fits) y app a w step b v turn puts → HasFinishedBut b (colour_run_by v)
    puts_finished turn [] before line = turn_finished turn turn.events before line
    puts_finished turn (put ∷ rest) before line = run_then (after_register w turn rest put line.answer) line.becomes (after_register_finished turn rest put line.answer (register_finished put.0 put.1 put.2 line.answer (Some turn.colour) line.called before))

    turning_finished : (turn : TurnState S P) (hand : Delivery) (puts : List (Colour × Event × Option P)) → HasFinishedBut a (Some turn.colour) → StepsTurning (words t fits) y app a w step b v turn hand puts → HasFinishedBut b (colour_run_by v)
    turning_finished turn (PushMark core mark) puts before line = subst (HasFinishedBut b) (ap (λ (x : WorkerState S P). colour_run_by x) (sym line.becomes)) (same_finished (Some turn.colour) line.called.0 before)
    turning_finished turn (Report core colour started worth) puts before line = subst (HasFinishedBut b) (ap (λ (x : WorkerState S P). colour_run_by x) (sym line.becomes)) (same_finished (Some turn.colour) line.called.0 before)
    turning_finished turn Nothing puts before line = puts_finished turn puts before line

    hunt_finished : (place : ℕ) (victim : Option ℕ) → HasFinishedBut a None → StepsHunt (words t fits) y app a w step b v place victim → HasFinishedBut b (colour_run_by v)
    hunt_finished place (Some victim) before line = run_then (after_pick w place victim line.answer) line.becomes (after_pick_finished place victim line.answer (same_finished None line.called.0 before))
    hunt_finished place None before line = absurd line

    free_finished : (halted : Bool) (place : ℕ) → HasFinishedBut a None → colour_run_by w ≡ None → StepsFree (words t fits) y app a w step b v halted place → HasFinishedBut b (colour_run_by v)
    free_finished true place before free line = subst (HasFinishedBut b) (sym free ∙ ap (λ (x : WorkerState S P). colour_run_by x) (sym line.1)) (same_finished None (ap (λ (s : Standpoint S P F). s.fronts) line.0) before)
    free_finished false zero before free line = run_then (after_pop w line.answer) line.becomes (after_pop_finished line.answer (same_finished None line.called.0 before))
    free_finished false (suc n) before free line = hunt_finished (suc n) (slice_get w.victims n) before line

    from_finished : (phase : Phase S P) → w.phase ≡ phase → HasFinishedBut a (colour_in phase) → StepsFrom (words t fits) y app a w step b v phase → HasFinishedBut b (colour_run_by v)
    from_finished (Turning turn hand puts) is before line = turning_finished turn hand puts before line
    from_finished (Pushing core mark) is before line = subst (HasFinishedBut b) (ap (λ (x : WorkerState S P). colour_run_by x) (sym line.becomes)) (same_finished None line.called.0 before)
    from_finished (Popped mark) is before line = run_then (after_take w mark line.answer) line.becomes (after_take_finished mark line.answer line.called before)
    from_finished (Picked mark victim) is before line = run_then (after_steal w mark victim line.answer) line.becomes (after_steal_finished mark victim line.answer (steal_finished mark.colour line.answer line.called before))
    from_finished (Landing mark) is before line = subst (HasFinishedBut b) (ap (λ (x : WorkerState S P). colour_run_by x) (sym line.becomes)) (same_finished None line.called.0 before)
    from_finished (Free place) is before line = free_finished w.halted place before (ap (λ (p : Phase S P). colour_in p) is) line

    -- a step keeps that each take has its finish, but that of the worker's turn
    step_finished : Steps (words t fits) y app a w step b v → HasFinished a w → HasFinished b v
    step_finished line before = from_finished w.phase refl before line

    -- and shows more
    turn_more : (turn : TurnState S P) (left : List (Event × Option P)) → StepsTurn (words t fits) y app a w step b v turn left → SeesMore a b
    turn_more turn [] line = sees_more a b (shard_of a.setup turn.colour) _ line.called (λ point does. inr (notes.Fin turn.colour a.number turn.count (snapshot_of turn.state) does.0.0, does.0.1))
    turn_more turn (event ∷ rest) runs = sees_same a b (ap (λ (s : Standpoint S P F). s.fronts) runs.untouched)

    puts_more : (turn : TurnState S P) (puts : List (Colour × Event × Option P)) → StepsPuts (words t fits) y app a w step b v turn puts → SeesMore a b
    puts_more turn [] line = turn_more turn turn.events line
    puts_more turn (put ∷ rest) line = sees_more a b (shard_of a.setup put.0) _ line.called (λ point does. register_adds a.setup a.number put.0 put.1 put.2 line.answer point _ does)

    turning_more : (turn : TurnState S P) (hand : Delivery) (puts : List (Colour × Event × Option P)) → StepsTurning (words t fits) y app a w step b v turn hand puts → SeesMore a b
    turning_more turn (PushMark core mark) puts line = sees_same a b line.called.0
    turning_more turn (Report core colour started worth) puts line = sees_same a b line.called.0
    turning_more turn Nothing puts line = puts_more turn puts line

    hunt_more : (place : ℕ) (victim : Option ℕ) → StepsHunt (words t fits) y app a w step b v place victim → SeesMore a b
    hunt_more place (Some victim) line = sees_same a b line.called.0
    hunt_more place None line = absurd line

    free_more : (halted : Bool) (place : ℕ) → StepsFree (words t fits) y app a w step b v halted place → SeesMore a b
    free_more true place line = sees_same a b (ap (λ (s : Standpoint S P F). s.fronts) line.0)
    free_more false zero line = sees_same a b line.called.0
    free_more false (suc n) line = hunt_more (suc n) (slice_get w.victims n) line

    from_more : (phase : Phase S P) → StepsFrom (words t fits) y app a w step b v phase → SeesMore a b
    from_more (Turning turn hand puts) line = turning_more turn hand puts line
    from_more (Pushing core mark) line = sees_same a b line.called.0
    from_more (Popped mark) line = sees_more a b (shard_of a.setup mark.colour) _ line.called (λ point does. take_adds t fits a.setup a.frame (a.given mark.colour) a.number mark.colour line.answer point _ does)
    from_more (Picked mark victim) line = sees_more a b (shard_of a.setup mark.colour) _ line.called (λ point does. steal_adds a.setup a.number mark.colour line.answer point _ does)
    from_more (Landing mark) line = sees_same a b line.called.0
    from_more (Free place) line = free_more w.halted place line

    pub step_more : Steps (words t fits) y app a w step b v → SeesMore a b
    step_more line = from_more w.phase line

-- more of more
pub more_onward : {S P F : Type 0} (a b c : Standpoint S P F) → SeesMore a b → SeesMore b c → SeesMore a c
more_onward a b c one other k =
    let first = one k in
    let second = other k in
    (first.0 ++ second.0, second.1 ∙ ap (λ h. h ++ second.0) first.1 ∙ append_assoc (front_in a.fronts k) first.0 second.0)

-- a look at a shard
pub look_finished : {S P F : Type 0} (a b : Standpoint S P F) (shard : ℕ) (r : Option Colour) → b.setup ≡ a.setup → b.number ≡ a.number → SeesAt a.setup a.number shard a.fronts b.fronts LooksAt → HasFinishedBut a r → HasFinishedBut b r
look_finished a b shard r same_setup same_number sees before k core count is =
    let taken : last_change a.number k (entries_of (front_in b.fronts (shard_of a.setup k))) ≡ Some (Take k core count) = subst (λ (s : Setup). last_change a.number k (entries_of (front_in b.fronts (shard_of s k))) ≡ Some (Take k core count)) same_setup (subst (λ n. last_change n k (entries_of (front_in b.fronts (shard_of b.setup k))) ≡ Some (Take k core count)) same_number is) in
    ⊎_elim
    (λ (same : shard_of a.setup k ≡ shard). before k core count (ap (λ j. last_change a.number k (entries_of (front_in a.fronts j))) same ∙ sym (change_at_point a.number k (front_in a.fronts shard) sees.seen.point sees.seen.others) ∙ ap (λ h. last_change a.number k (entries_of h)) (sym sees.seen.does) ∙ ap (λ j. last_change a.number k (entries_of (front_in b.fronts j))) (sym same) ∙ taken))
    (λ (other : shard_of a.setup k ≡ shard → ⊥). before k core count (sym (ap (λ h. last_change a.number k (entries_of h)) (sees.others (shard_of a.setup k) other)) ∙ taken))
    (cases_eq (shard_of a.setup k) shard)

pub look_more : {S P F : Type 0} (a b : Standpoint S P F) (shard : ℕ) → SeesAt a.setup a.number shard a.fronts b.fronts LooksAt → SeesMore a b
look_more a b shard sees = sees_more a b shard LooksAt sees (λ point does. inl does)

-- a free worker runs no colour
pub free_runs : {S P : Type 0} (phase : Phase S P) → IsTrue (is_free phase) → colour_in phase ≡ None
free_runs (Free place) free = refl
free_runs (Popped mark) free = refl
free_runs (Picked mark victim) free = refl
free_runs (Landing mark) free = refl
free_runs (Pushing core mark) free = refl
free_runs (Turning turn hand puts) free = cc

module _ {S P F : Type 0} where
  free_phase : (t : TrailWords S F) (fits : F → Colour → Event → Option P → Type 0) (setup : Setup) (own : ℕ) (frame : F) (owes : Colour → ℕ → ℕ → List Event → Type 0) (phase : Phase S P) → IsTrue (is_free phase) → PhaseMayStep t fits setup own frame owes phase
  free_phase t fits setup own frame owes (Free place) free = tt
  free_phase t fits setup own frame owes (Popped mark) free = cc
  free_phase t fits setup own frame owes (Picked mark victim) free = cc
  free_phase t fits setup own frame owes (Landing mark) free = cc
  free_phase t fits setup own frame owes (Pushing core mark) free = cc
  free_phase t fits setup own frame owes (Turning turn hand puts) free = cc

  -- what a free worker needs for its steps doesn't hang on what was seen
  pub free_may : (t : TrailWords S F) (fits : F → Colour → Event → Option P → Type 0) (setup : Setup) (own own' : ℕ) (frame : F) (owes owes' : Colour → ℕ → ℕ → List Event → Type 0) (w : WorkerState S P) → own' ≡ own → IsTrue (is_free w.phase) → MayStep t fits setup own frame owes w → MayStep t fits setup own' frame owes' w
  free_may t fits setup own own' frame owes owes' w same free may = record {
    own_core = same ∙ may.own_core;
    core = may.core;
    batch = may.batch;
    victims = may.victims;
    phase = free_phase t fits setup own' frame owes' w.phase free;
    lost = may.lost;
  }

-- what the side of a core may call, by where it stands
abbrev pub side_words : {B S P F : Type 0} → TrailWords S F → (F → Colour → Event → Option P → Type 0) → (B → Standpoint S P F) → (B → B → Type 0) → AccessWords B S P F
side_words t fits view keeps = record {
  setup_of = λ s. (view s).setup;
  core_of = λ s. (view s).number;
  frame_of = λ s. (view s).frame;
  owes = λ s c core count trail. IsOwed (view s).number (entries_of (front_for (view s).setup (view s).fronts c)) c core count trail;
  keeps = keeps;
  registers = λ s c event load answer u. SeesAt (view s).setup (view s).number (shard_of (view s).setup c) (view s).fronts (view u).fronts (RegistersAt (view s).setup (view s).number c event load answer);
  takes = λ s c answer u. SeesAt (view s).setup (view s).number (shard_of (view s).setup c) (view s).fronts (view u).fronts (TakesAt t fits (view s).setup (view s).frame ((view s).given c) (view s).number c answer);
  finishes = λ s turn answer u. SeesAt (view s).setup (view s).number (shard_of (view s).setup turn.colour) (view s).fronts (view u).fronts (FinishesAt (view s).setup (view s).number turn answer);
  steals = λ s c answer u. SeesAt (view s).setup (view s).number (shard_of (view s).setup c) (view s).fronts (view u).fronts (StealsAt (view s).setup (view s).number c answer);
  pushes = λ s core mark answer u. ((view u).fronts ≡ (view s).fronts) × ReachesChain (view s).number core (view s).chains (view u).chains (PushesAt (chain_frame_for (view s).setup) (view s).number mark answer);
  pops = λ s answer u. ((view u).fronts ≡ (view s).fronts) × ReachesChain (view s).number (view s).number (view s).chains (view u).chains (PopsAt (chain_frame_for (view s).setup) (view s).number answer);
  retells = λ s core c started worth found u. ((view u).fronts ≡ (view s).fronts) × ReachesChain (view s).number core (view s).chains (view u).chains (RetellsAt (chain_frame_for (view s).setup) (view s).number c started worth found);
  picks = λ s core answer u. ((view u).fronts ≡ (view s).fronts) × ReachesChain (view s).number core (view s).chains (view u).chains (PicksAt (chain_frame_for (view s).setup) (view s).number answer);
}

-- a delivery by a side is the one call on the chain that it names, and nothing more is seen of the shards
module _ {B S P F : Type 0} (t : TrailWords S F) (fits : F → Colour → Event → Option P → Type 0) (view : B → Standpoint S P F) (keeps : B → B → Type 0) (s u : B) where
  pub side_delivers : (delivery : Delivery) (arrived : Bool) → Delivers (side_words t fits view keeps) s delivery arrived u → ((view u).fronts ≡ (view s).fronts) × DeliversAt (chain_frame_for (view s).setup) (view s).number delivery (view s).chains (view u).chains
  side_delivers Nothing arrived is = (ap (λ b. (view b).fronts) is.0, ap (λ b. (view b).chains) is.0)
  side_delivers (PushMark core mark) arrived is = (is.1.0, (is.0, is.1.1))
  side_delivers (Report core c started worth) arrived does = (does.0, (arrived, does.1))

module _ {B R S P F : Type 0} (t : TrailWords S F) (fits : F → Colour → Event → Option P → Type 0) (view : B → Standpoint S P F) (keeps : B → B → Type 0) (y : AppWords R P S F) (app : R) (s u : B) (w v : WorkerState S P) (step : Made) (steps : Steps (side_words t fits view keeps) y app s w step u v) where
  pub standpoint_steps : Steps (words t fits) y app (view s) w step (view u) v
  standpoint_steps = steps_under (side_words t fits view keeps) (words t fits) y view app s w step u v (record {
    registers = λ c event load answer h. h;
    takes = λ c answer h. h;
    finishes = λ turn answer h. h;
    steals = λ c answer h. h;
    pushes = λ core mark answer h. h;
    pops = λ answer h. h;
    retells = λ core c started worth found h. h;
    picks = λ core answer h. h;
  }) steps

  side_more : (view u).setup ≡ (view s).setup → (view u).number ≡ (view s).number → SeesMore (view s) (view u)
  side_more same_setup same_number = step_more (view s) (view u) same_setup same_number t fits y app w step v standpoint_steps

  side_finished : (view u).setup ≡ (view s).setup → (view u).number ≡ (view s).number → HasFinished (view s) w → HasFinished (view u) v
  side_finished same_setup same_number = step_finished (view s) (view u) same_setup same_number t fits y app w step v standpoint_steps

  pub side_works : (view u).setup ≡ (view s).setup → (view u).number ≡ (view s).number → WorksOn (view s) w (view u) v
  side_works same_setup same_number = record { more = side_more same_setup same_number; finished = side_finished same_setup same_number }

-- nothing was done
pub works_none : {S P F : Type 0} (a : Standpoint S P F) (w : WorkerState S P) → WorksOn a w a w
works_none a w = record { more = sees_same a a refl; finished = λ before. before }

-- one thing after another
pub works_onward : {S P F : Type 0} (a b c : Standpoint S P F) (u v w : WorkerState S P) → WorksOn a u b v → WorksOn b v c w → WorksOn a u c w
works_onward a b c u v w one other = record { more = more_onward a b c one.more other.more; finished = λ before. other.finished (one.finished before) }

-- a free worker looked at the shards
pub works_free : {S P F : Type 0} (a b : Standpoint S P F) (w : WorkerState S P) → IsTrue (is_free w.phase) → SeesMore a b → (HasFinishedBut a None → HasFinishedBut b None) → WorksOn a w b w
works_free a b w free more finished =
    let none : colour_run_by w ≡ None = free_runs w.phase free in
    record { more = more; finished = λ before. subst (HasFinishedBut b) (sym none) (finished (subst (HasFinishedBut a) none before)) }
