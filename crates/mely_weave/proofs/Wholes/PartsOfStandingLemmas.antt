-- A weave that stands well stands in each of the eight parts.
use Rattle.std.proofs.Common.{◌≡◌, ℕ, zero, suc, ◌≤◌, ◌<◌, ◌%◌, Bool, List, [], ◌∷◌, Option, Some, None, map, refl, ap, sym, ◌∙◌, subst, arith, inl, inr, length-drop}
use Rattle.std.proofs.lemmas.Bool.{cases_Bool}
use Rattle.std.proofs.lemmas.List.{length-map}
use Rattle.std.proofs.lemmas.Option.{slice_get_within, slice_get-map, same_Some, none-some}
use Rattle.std.specs.Prelude.{slice_get, option_map}
use Rattle.std.specs.List.{count_by}
use Rattle.mely_event.specs.declared.colour.Colour.{Colour}
use Rattle.mely_event.specs.declared.event.Event.{Event}
use Rattle.mely_event.specs.declared.mark.Mark.{Mark}
use Rattle.mely_event.specs.declared.trail.Trail.{Ghosts as TrailWords}
use Rattle.mely_history.specs.declared.setup.Setup.{Setup}
use Rattle.mely_history.specs.declared.entry.Entry.{Entry}
use Rattle.mely_history.specs.Setup.{shape_of, colours_of}
use Rattle.mely_history.specs.History.{begun_of, registered_of, IsRunning}
use Rattle.mely_history.specs.Legal.{IsRunningOn, IsLegal, IsOfShard}
use Rattle.mely_history.specs.ColourAccount.{account_of}
use Rattle.mely_queue.specs.Turn.{TurnState, EachFits}
use Rattle.mely_shard.specs.Shard.{ShardState, ColourState, IsOwn, LaneStands, HomeStands, lane_at, place}
use Rattle.mely_worker.specs.declared.phase.Phase.{Phase}
use Rattle.mely_worker.specs.declared.phase.Phase.TheVariants.{Picked, Turning}
use Rattle.mely_worker.specs.declared.delivery.Delivery.{Delivery}
use Rattle.mely_worker.specs.declared.delivery.Delivery.TheVariants.{Report}
use Rattle.mely_worker.specs.Access.{IsColour}
use Rattle.mely_worker.specs.Conditions.{MayTurn, PhaseMayStep}
use Rattle.mely_worker.specs.Worker.{WorkerState}
use Rattle.mely_weave.specs.Side.{Readiness, shard_of, history_in, readiness_for}
use Rattle.mely_weave.specs.Marks.{Placed, bit}
use Rattle.mely_weave.specs.Calls.{IsOut}
use Rattle.mely_weave.specs.Lanes.{lane_in, lane_for}
use Rattle.mely_weave.specs.StandsWell.{StandsWell, PhaseIsTold, side_of}
use Rattle.mely_weave.specs.Weave.{WeaveState}
use Rattle.mely_weave.specs.WeaveStands.{IsWhole, HistoriesStand, MarksAreOne, MarksAreForOwners, MarksAreTold, ReportsAreTold, TurnsStand, StatesStand, RegistrationsFit, WeaveStands, IsHeld, IsHomeState, Turns, history_of, placed_marks}
use Rattle.mely_weave.proofs.Marks.CountsLemmas.{count_cons}
use Rattle.mely_weave.proofs.Entries.EntryLemmas.{is_ready, ready_rests, some_waits}
use Rattle.mely_weave.proofs.Wholes.GatherLemmas.{get_there}
use Rattle.mely_weave.proofs.Marks.HandLemmas.{IsSoundMark, sound_mark}
use Rattle.mely_weave.proofs.Entries.SideLemmas.{get_map}

-- a mark of a list is counted in it
count_member : (marks : List Placed) (i : ℕ) (m : Placed) → slice_get marks i ≡ Some m → (p : Placed → Bool) → bit (p m) ≤ count_by p marks
count_member [] i m is p = absurd (none-some m is)
count_member (x ∷ xs) zero m is p = rw (← same_Some x m is) (omega (arith, count_cons p x xs))
count_member (x ∷ xs) (suc i) m is p = omega (arith, count_cons p x xs, count_member xs i m is p)

-- what an element of a mapped list comes from
from_map : {A B : Type 0} (f : A → B) (xs : List A) (i : ℕ) (y : B) → slice_get (map f xs) i ≡ Some y → (x : A) × ((slice_get xs i ≡ Some x) × (f x ≡ y))
from_map f xs i y is =
    let here = get_there xs i (let low = slice_get_within (map f xs) i y is in omega (arith, low, length-map xs f)) in
    (here.0, (here.1, same_Some (f here.0) y (sym (slice_get-map f xs i ∙ ap (option_map f) here.1) ∙ is)))

module _ {S P F : Type 0} (t : TrailWords S F) (fits : F → Colour → Event → Option P → Type 0) (weave : WeaveState S P) (well : StandsWell t fits weave) where
  abbrev of : Colour → Readiness
  of = readiness_for weave.setup weave.shards

  -- the lane of a colour, in its shard
  record IsLane (c : Colour) (lane : ColourState S P) : Type 0 where
    pub has : ShardState S P
    pub there : slice_get weave.shards (shard_of weave.setup c) ≡ Some has
    pub stands : LaneStands t fits (history_of t fits weave c) c lane
    pub framed : t.frame_of lane.given ≡ t.frame_of weave.given

  is_lane : (c : Colour) (lane : ColourState S P) → IsColour weave.setup c → lane_for weave.setup weave.shards c ≡ Some lane → IsLane c lane
  is_lane c lane low at =
      let has = get_there weave.shards (shard_of weave.setup c) (let some : 1 ≤ (shape_of weave.setup).shards = weave.setup.shards_in.0 in let count = well.shards in omega (arith, some, count)) in
      let is = well.shard (shard_of weave.setup c) has.0 has.1 in
      let own : IsOwn has.0 c = record {
        there = subst (λ (s : Setup). c.0 < colours_of s) (sym is.of_setup) low;
        here = ap (λ (s : Setup). c.0 % (shape_of s).shards) is.of_setup ∙ sym is.numbered;
      } in
      let here : lane_at has.0 c ≡ Some lane = sym (ap (λ o. lane_in o c) has.1) ∙ at in
      record {
        has = has.0;
        there = has.1;
        stands = subst (λ (h : List Entry). LaneStands t fits h c lane) (sym (ap history_in has.1)) (is.kept.each c lane own here);
        framed = is.framed (place has.0.setup c) lane.given (get_map (λ (l : ColourState S P). l.given) has.0.lanes (place has.0.setup c) lane here);
      }

  is_whole : IsWhole t fits weave
  is_whole = record {
    shards = well.shards;
    lanes = λ c low.
        let has = get_there weave.shards (shard_of weave.setup c) (let some : 1 ≤ (shape_of weave.setup).shards = weave.setup.shards_in.0 in let count = well.shards in omega (arith, some, count)) in
        let is = well.shard (shard_of weave.setup c) has.0 has.1 in
        let own : IsOwn has.0 c = record {
          there = subst (λ (s : Setup). c.0 < colours_of s) (sym is.of_setup) low;
          here = ap (λ (s : Setup). c.0 % (shape_of s).shards) is.of_setup ∙ sym is.numbered;
        } in
        let lane = get_there has.0.lanes (place has.0.setup c) (is.kept.found c own) in
        (lane.0, ap (λ o. lane_in o c) has.1 ∙ lane.1);
    chains = well.chains;
    workers = well.workers;
    own_core = λ core w there. sym (well.worker core w there).may.own_core;
  }

  histories_stand : HistoriesStand t fits weave
  histories_stand = record {
    legal = record {
      legal = λ shard history is.
          let has = from_map (λ (h : ShardState S P). h.history) weave.shards shard history is in
          let stands = well.shard shard has.0 has.1.0 in
          subst (λ (h : List Entry). IsLegal weave.setup h) has.1.1 (subst (λ (s : Setup). IsLegal s has.0.history) stands.of_setup stands.kept.legal);
      of_shard = λ shard history is.
          let has = from_map (λ (h : ShardState S P). h.history) weave.shards shard history is in
          let stands = well.shard shard has.0 has.1.0 in
          subst (λ (h : List Entry). IsOfShard weave.setup shard h) has.1.1 (subst (λ (n : ℕ). IsOfShard weave.setup n has.0.history) stands.numbered (subst (λ (s : Setup). IsOfShard s has.0.shard has.0.history) stands.of_setup stands.kept.of_shard));
    };
    queued = λ c lane low at. (is_lane c lane low at).stands.events;
    fit = λ c lane low at. let is = is_lane c lane low at in subst (λ (f : F). EachFits (fits f c) lane.events) is.framed is.stands.fit;
  }

  marks_are_one : MarksAreOne t fits weave
  marks_are_one = record {
    one = λ c ready.
        let account = account_of weave.setup (history_of t fits weave c) c in
        well.marks.one c ∙ ap bit (is_ready weave.setup account ready.at_rest (some_waits account ready.waiting));
    none = λ c unready. well.marks.one c ∙ elim (cases_Bool (of c).ready) [
      | inl ready ↦
          let rests = ready_rests weave.setup (account_of weave.setup (history_of t fits weave c) c) ready in
          let waits = rests.1 in
          absurd (unready (record { at_rest = rests.0; waiting = omega (arith, waits, length-drop (begun_of (history_of t fits weave c) c) (registered_of (history_of t fits weave c) c)) }))
      | inr is ↦ ap bit is
    ];
  }

  sound : (core : ℕ) (mark : Mark) → IsHeld t fits weave core mark → IsSoundMark of (core, mark)
  sound core mark at = sound_mark of (placed_marks t fits weave) (core, mark) (count_member (placed_marks t fits weave) at.0 (core, mark) at.1) well.marks

  told : (core : ℕ) (w : WorkerState S P) (phase : Phase S P) → slice_get weave.workers core ≡ Some w → w.phase ≡ phase → PhaseIsTold weave.setup of core phase
  told core w phase there is = subst (PhaseIsTold weave.setup of core) is (well.worker core w there).told

  marks_are_for_owners : MarksAreForOwners t fits weave
  marks_are_for_owners = record {
    owner = λ core mark at. (sound core mark at).owner;
    thief = λ core victim w mark there is. (told core w (Picked mark victim) there is).0;
  }

  marks_are_told : MarksAreTold t fits weave
  marks_are_told = record {
    started = λ core mark at. (sound core mark at).begun;
    worth = λ core mark at. (sound core mark at).worth;
    worthy = λ core victim w mark there is. (told core w (Picked mark victim) there is).1;
    loose = λ core victim w mark there is. (told core w (Picked mark victim) there is).2;
  }

  reports_are_told : ReportsAreTold t fits weave
  reports_are_told = record {
    started = λ core to turn c started worth puts at. (told core at.0 (Turning turn (Report to c started worth) puts) at.1.0 at.1.1).1.0;
    worth = λ core to turn c started worth puts at. (told core at.0 (Turning turn (Report to c started worth) puts) at.1.0 at.1.1).1.1;
  }

  may : (core : ℕ) (turn : TurnState S P) (hand : Delivery) (puts : List (Colour × Event × Option P)) → Turns t fits weave core turn hand puts → MayTurn t fits weave.setup core (t.frame_of weave.given) (IsOut (side_of weave core)) turn hand puts
  may core turn hand puts at = subst (PhaseMayStep t fits weave.setup core (t.frame_of weave.given) (IsOut (side_of weave core))) at.1.1 (well.worker core at.0 at.1.0).may.phase

  turns_stand : TurnsStand t fits weave
  turns_stand = record {
    runs = λ core turn hand puts at.
        let mine : turn.core ≡ core = (told core at.0 (Turning turn hand puts) at.1.0 at.1.1).0 in
        subst (λ (k : ℕ). IsRunningOn (history_of t fits weave turn.colour) turn.colour k turn.count) mine (may core turn hand puts at).of_turn.owed.runs;
    turns = well.running;
    trailed = λ core turn hand puts at. (may core turn hand puts at).of_turn.owed.trailed;
  }

  home : (c : Colour) (lane : ColourState S P) → IsLane c lane → (o : Option S) → lane.state ≡ o → HomeStands t (history_of t fits weave c) c lane.given o → ¬ IsRunning (history_of t fits weave c) c → (state : S) × ((lane.state ≡ Some state) × IsHomeState t fits weave c state)
  home c lane in_shard None is stands rests = absurd (rests stands)
  home c lane in_shard (Some state) is stands rests = (state, (is, record { trail = stands.1; colour = stands.2; frame = stands.3 ∙ in_shard.framed }))

  away : (c : Colour) (lane : ColourState S P) (o : Option S) → lane.state ≡ o → HomeStands t (history_of t fits weave c) c lane.given o → IsRunning (history_of t fits weave c) c → lane.state ≡ None
  away c lane None is stands runs = is
  away c lane (Some state) is stands runs = absurd (let rests = stands.0 in omega (arith, rests, runs))

  states_stand : StatesStand t fits weave
  states_stand = record {
    home = λ c lane low at rests. let in_shard = is_lane c lane low at in home c lane in_shard lane.state refl in_shard.stands.state rests;
    away = λ c lane low at runs. away c lane lane.state refl (is_lane c lane low at).stands.state runs;
    turn = λ core turn hand puts at. let is = (may core turn hand puts at).of_turn in record { colour = is.of_colour; frame = is.of_frame };
  }

  registrations_fit : RegistrationsFit t fits weave
  registrations_fit = record {
    left = λ core turn hand puts at. (may core turn hand puts at).of_puts;
    lost = λ core w there. (well.worker core w there).may.lost;
  }

  -- the weave stands
  pub weave_stands : WeaveStands t fits weave
  weave_stands = record {
    whole = is_whole;
    histories = histories_stand;
    one_mark = marks_are_one;
    owners = marks_are_for_owners;
    marks = marks_are_told;
    reports = reports_are_told;
    turns = turns_stand;
    states = states_stand;
    registrations = registrations_fit;
  }
