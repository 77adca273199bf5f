-- What a step of a weave does to what is registered, what is left to register, and what was run.
use Rattle.std.proofs.Common.{◌≡◌, ◌≢◌, ℕ, zero, suc, ◌+◌, ◌<◌, ◌==◌, List, [], ◌∷◌, ◌++◌, Option, Some, Result, Ok, Err, Bool, true, false, if◌then◌else◌, length, take, drop, refl, sym, ◌∙◌, ap, subst, arith, inl, inr, ne_eqb, eqb-true}
use Rattle.std.proofs.lemmas.Bool.{cases_eq, cases_lt}
use Rattle.std.proofs.lemmas.List.{take-map}
use Rattle.std.specs.List.{AllByRecursion}
use Rattle.std.specs.Prelude.{slice_get, slice_set, sum_by}
use Rattle.mely_event.specs.declared.colour.Colour.{Colour}
use Rattle.mely_event.specs.declared.event.Event.{Event}
use Rattle.mely_event.specs.declared.mark.Mark.{Mark}
use Rattle.mely_event.specs.declared.trail.Trail.{Ghosts as TrailWords}
use Rattle.mely_event.specs.declared.unregistered.Unregistered.{Unregistered}
use Rattle.mely_history.specs.declared.after.After.{After}
use Rattle.mely_history.specs.declared.entry.Entry.{Entry}
use Rattle.mely_history.specs.declared.entry.Entry.TheVariants.{Reg, Take, Fin, Steal}
use Rattle.mely_history.specs.declared.no_steal.NoSteal.{NoSteal}
use Rattle.mely_history.specs.declared.no_take.NoTake.{NoTake}
use Rattle.mely_history.specs.declared.registered.Registered.{Registered}
use Rattle.mely_history.specs.declared.setup.Setup.{Setup}
use Rattle.mely_history.specs.declared.stolen.Stolen.{Stolen}
use Rattle.mely_history.specs.History.{registered_of, begun_of, queued_of}
use Rattle.mely_history.specs.Legal.{IsLegal}
use Rattle.mely_history.specs.Setup.{colours_of}
use Rattle.mely_history.proofs.BeyondLemmas.{none_registered}
use Rattle.mely_history.proofs.LegalAccountLemmas.{same_colour}
use Rattle.mely_queue.specs.Turn.{TurnState}
use Rattle.mely_shard.specs.Shard.{ShardState, IsOwn}
use Rattle.mely_worker.specs.Access.{events_of}
use Rattle.mely_worker.specs.Conditions.{MayStepAt, PhaseMayStep}
use Rattle.mely_worker.specs.declared.app.App.{Ghosts as AppWords}
use Rattle.mely_worker.specs.declared.delivery.Delivery.TheVariants.{Nothing}
use Rattle.mely_worker.specs.declared.made.Made.{Made}
use Rattle.mely_worker.specs.declared.phase.Phase.TheVariants.{Turning}
use Rattle.mely_worker.specs.Step.{Steps, after_take}
use Rattle.mely_worker.specs.Worker.{WorkerState}
use Rattle.mely_weave.specs.Calls.{AtShard, AtChain, IsOut, RegisterAs, TakeAs, FinishAs, StealAs, side_words}
use Rattle.mely_weave.specs.Runs.{StepsWell}
use Rattle.mely_weave.specs.Side.{SideState, shard_of, history_in, history_at}
use Rattle.mely_weave.specs.StandsWell.{StandsWell, side_of}
use Rattle.mely_weave.specs.Weave.{WeaveState}
use Rattle.mely_weave.proofs.Entries.SideLemmas.{get_set_other, histories_stay, history_was, history_becomes, shard_owns}
use Rattle.mely_weave.proofs.Runs.SidedStepLemmas.{step_on_side}
use Rattle.mely_tally.proofs.AlongLemmas.{cancel_behind}
use Rattle.mely_tally.proofs.HistoryCountsLemmas.{share_take, put_more, take_more, taken_after}
use Rattle.mely_tally.proofs.StepAccountLemmas.{CountsRegistrations, CountsTakes, runs_of, puts_step, ran_step, well_step}
use Rattle.mely_tally.specs.Account.{IsRunOf, count_put, count_puts, count_run, count_due, count_left, sum_along, taken_of}

-- what holds of each of two lists holds of both together
pub all-append : {X : Type 0} (Has : X → Type 0) (xs ys : List X) → AllByRecursion Has xs → AllByRecursion Has ys → AllByRecursion Has (xs ++ ys)
all-append Has [] ys one other = other
all-append Has (x ∷ xs) ys one other = (one.0, all-append Has xs ys one.1 other)

-- what follows of each of a list holds of all
pub all_map : {X : Type 0} (Has So : X → Type 0) (xs : List X) → ((x : X) → Has x → So x) → AllByRecursion Has xs → AllByRecursion So xs
all_map Has So [] so one = tt
all_map Has So (x ∷ xs) so one = (so x one.0, all_map Has So xs so one.1)

-- one shard changes: what is told of the history of a colour
module _ {S P : Type 0} (a b : SideState S P) (c d : Colour) (Does : ShardState S P → ShardState S P → Type 0) (at : AtShard a b d Does) (told : List Entry → ℕ) where
  pub kept : at.new.history ≡ at.old.history → told (history_at b c) ≡ told (history_at a c)
  kept same = ap told (histories_stay a b d Does at same c)

  -- by an entry more of the colour d
  pub grown : (entry : Entry) (n : ℕ) → at.new.history ≡ at.old.history ++ entry ∷ [] → told (at.old.history ++ entry ∷ []) ≡ told at.old.history + n → (d.0 ≢ c.0 → n ≡ 0) → told (history_at b c) ≡ told (history_at a c) + n
  grown entry n more is other = elim (cases_eq (shard_of a.setup c) (shard_of a.setup d)) [
    | inl same ↦
        let was : history_at a c ≡ at.old.history = ap (λ (g : ℕ). history_in (slice_get a.shards g)) same ∙ history_was a b d Does at in
        let own : history_at b c ≡ history_at b d = ap (λ (s : SideState S P). history_at s c) at.becomes ∙ ap (λ (g : ℕ). history_in (slice_get (slice_set a.shards (shard_of a.setup d) at.new) g)) same ∙ sym (ap (λ (s : SideState S P). history_at s d) at.becomes) in
        let now : history_at b c ≡ at.old.history ++ entry ∷ [] = own ∙ history_becomes a b d Does at ∙ more in
        ap told now ∙ is ∙ ap (λ h. told h + n) (sym was)
    | inr apart ↦
        let stays : history_at b c ≡ history_at a c = ap (λ (s : SideState S P). history_at s c) at.becomes ∙ ap history_in (get_set_other a.shards (shard_of a.setup d) (shard_of a.setup c) at.new apart) in
        let told_same = ap told stays in
        let none : n ≡ 0 = other (λ e. apart (ap (λ (z : Colour). shard_of a.setup z) (sym (same_colour d c e)))) in
        omega (arith, told_same, none)
  ]

-- a chain changes: no history does
chained : {S P : Type 0} (a b : SideState S P) (c : Colour) (core : ℕ) (Does : _) → AtChain a b core Does → history_at b c ≡ history_at a c
chained {S} {P} a b c core Does at = ap (λ (s : SideState S P). history_at s c) at.becomes

pub apart_none : (c d : Colour) (n : ℕ) → d.0 ≢ c.0 → (if d.0 == c.0 then n else 0) ≡ 0
apart_none c d n apart = ap (λ (b : Bool). if b then n else 0) (ne_eqb d.0 c.0 apart)

drop_none : (n : ℕ) → length (drop n (let none : List Event = [] in none)) ≡ 0
drop_none zero = refl
drop_none (suc n) = refl

module _ {R S P F : Type 0} (t : TrailWords S F) (fits : F → Colour → Event → Option P → Type 0) (y : AppWords R P S F) (app : R) (before after : WeaveState S P) (core : ℕ) (made : Made) (well : StandsWell t fits before) (is : StepsWell t fits y app before core made after) where
  abbrev pub a : SideState S P
  a = side_of before core

  abbrev pub b : SideState S P
  b = is.call.steps.side

  abbrev pub w : WorkerState S P
  w = is.call.steps.worker

  abbrev pub v : WorkerState S P
  v = is.call.steps.becomes

  abbrev pub line : Steps (side_words t (λ _. Unit {0})) y app a w made b v
  line = step_on_side t y app a b w v made is.call.steps.steps

  -- ---- what is registered

  module _ (c : Colour) (number : Event → ℕ) where
    abbrev pub registered_at : SideState S P → ℕ
    registered_at s = sum_by number (registered_of (history_at s c) c)

    abbrev told : List Entry → ℕ
    told history = sum_by number (registered_of history c)

    takes : (d : Colour) (answer : Result (TurnState S P) NoTake) → AtShard a b d (TakeAs d core answer) → registered_at b ≡ registered_at a
    takes d (Ok turn) at = let more = grown a b c d (TakeAs d core (Ok turn)) at told (Take d core turn.count) 0 at.does.after.history (put_more c number at.old.history (Take d core turn.count)) (λ _. refl) in omega (arith, more)
    takes d (Err why) at = kept a b c d (TakeAs d core (Err why)) at told at.does.0.history

    steals : (d : Colour) (answer : Result Stolen NoSteal) → AtShard a b d (StealAs d core answer) → registered_at b ≡ registered_at a
    steals d (Ok stolen) at = let more = grown a b c d (StealAs d core (Ok stolen)) at told (Steal d stolen.from core) 0 at.does.history (put_more c number at.old.history (Steal d stolen.from core)) (λ _. refl) in omega (arith, more)
    steals d (Err why) at = kept a b c d (StealAs d core (Err why)) at told at.does.0.history

    finishes : (turn : TurnState S P) (answer : After) → AtShard a b turn.colour (FinishAs turn answer) → registered_at b ≡ registered_at a
    finishes turn answer at = let more = grown a b c turn.colour (FinishAs turn answer) at told (Fin turn.colour turn.core turn.count) 0 at.does.0.after.history (put_more c number at.old.history (Fin turn.colour turn.core turn.count)) (λ _. refl) in omega (arith, more)

    registrations : CountsRegistrations (side_words t (λ _. Unit {0})) y app a b w made v c number registered_at
    registrations = record {
      registers = λ d event load reply at. grown a b c d (RegisterAs d event load core (Ok reply)) at told (Reg d event core) (count_put c number (d, event, load)) at.does.0.after.history (put_more c number at.old.history (Reg d event core)) (apart_none c d (number event));
      refuses = λ d event load back at. kept a b c d (RegisterAs d event load core (Err back)) at told at.does.history;
      takes = takes;
      finishes = finishes;
      steals = steals;
      pushes = λ to mark answer at. ap told (chained a b c to _ at);
      pops = λ answer at. ap told (chained a b c core _ at);
      retells = λ to d started worth found at. ap told (chained a b c to _ at);
      picks = λ to answer at. ap told (chained a b c to _ at);
    }

    pub puts_made : registered_at b + count_due c number v ≡ registered_at a + count_due c number w + sum_by (λ run. count_puts c number run.puts) (runs_of (side_words t (λ _. Unit {0})) y app a b w made v line)
    puts_made = puts_step (side_words t (λ _. Unit {0})) y app a b w made v c number registered_at registrations line

  -- ---- what was run

  may_before : MayStepAt t fits (side_words t (λ _. Unit {0})) a w
  may_before = (well.worker core w is.call.steps.was).may

  may_after : MayStepAt t fits (side_words t (λ _. Unit {0})) b v
  may_after = is.call.may

  old_of_setup : (d : Colour) (old : ShardState S P) → slice_get before.shards (shard_of before.setup d) ≡ Some old → old.setup ≡ before.setup
  old_of_setup d old was = (well.shard (shard_of before.setup d) old was).of_setup

  old_legal : (d : Colour) (old : ShardState S P) → slice_get before.shards (shard_of before.setup d) ≡ Some old → IsLegal before.setup old.history
  old_legal d old was = subst (λ (s : Setup). IsLegal s old.history) (old_of_setup d old was) (well.shard (shard_of before.setup d) old was).kept.legal

  -- a colour of which something waits is one of the shard
  waits_own : (d : Colour) (old : ShardState S P) → slice_get before.shards (shard_of before.setup d) ≡ Some old → 0 < length (queued_of old.history d) → IsOwn old d
  waits_own d old was waits = elim (cases_lt d.0 (colours_of before.setup)) [
    | inl low ↦ shard_owns t fits a (record { shards = well.shards; shard = well.shard; chains = well.chains; chain = well.chain }) d old low was
    | inr high ↦
        let none = none_registered before.setup old.history (old_legal d old was) d high in
        let empty : length (queued_of old.history d) ≡ 0 = ap (λ (l : List Event). length (drop (begun_of old.history d) l)) none ∙ drop_none (begun_of old.history d) in
        absurd (omega (arith, waits, empty))
  ]

  module _ (c : Colour) (number : List Event → Event → ℕ) where
    abbrev pub taken_at : SideState S P → ℕ
    taken_at s = sum_along number [] (taken_of (history_at s c) c)

    abbrev told_taken : List Entry → ℕ
    told_taken history = sum_along number [] (taken_of history c)

    -- an entry that takes nothing
    untaken : (d : Colour) (Does : ShardState S P → ShardState S P → Type 0) (at : AtShard a b d Does) (entry : Entry) → at.new.history ≡ at.old.history ++ entry ∷ [] → share_take c number at.old.history entry ≡ 0 → taken_at b ≡ taken_at a
    untaken d Does at entry more none =
        let one = take_more before.setup c number at.old.history entry (old_legal d at.old at.was) in
        let grows = grown a b c d Does at told_taken entry 0 more (omega (arith, one, none)) (λ _. refl) in
        omega (arith, grows)

    steals_taken : (d : Colour) (answer : Result Stolen NoSteal) → AtShard a b d (StealAs d core answer) → taken_at b ≡ taken_at a
    steals_taken d (Ok stolen) at = untaken d (StealAs d core (Ok stolen)) at (Steal d stolen.from core) at.does.history refl
    steals_taken d (Err why) at = kept a b c d (StealAs d core (Err why)) at told_taken at.does.0.history

    registers_taken : (d : Colour) (event : Event) (load : Option P) (answer : Result Registered (Unregistered P)) → AtShard a b d (RegisterAs d event load core answer) → taken_at b ≡ taken_at a
    registers_taken d event load (Ok reply) at = untaken d (RegisterAs d event load core (Ok reply)) at (Reg d event core) at.does.0.after.history refl
    registers_taken d event load (Err back) at = kept a b c d (RegisterAs d event load core (Err back)) at told_taken at.does.history

    module _ (mark : Mark) (turn : TurnState S P) (at : AtShard a b mark.colour (TakeAs mark.colour core (Ok turn))) (is_then : v ≡ after_take w mark (Ok turn)) where
      abbrev old : ShardState S P
      old = at.old

      abbrev z : Colour
      z = mark.colour

      of_colour : turn.colour ≡ z
      of_colour = ap (λ (x : TurnState S P). x.colour) at.does.made

      -- the turn has the first ones that were queued
      events_are : events_of turn.events ≡ take turn.count (queued_of old.history z)
      events_are =
          let stands = (well.shard (shard_of before.setup z) old at.was).kept.each z at.does.before (waits_own z old at.was at.does.allowed.ready.waiting) at.does.was in
          ap (λ (x : TurnState S P). events_of x.events) at.does.made
          ∙ sym (take-map (λ (e : Event × Option P). e.0) turn.count at.does.before.events)
          ∙ ap (take turn.count) stands.events

      -- the state that it is given has those that were taken before
      trail_is : t.trail_of turn.state ≡ taken_of old.history z
      trail_is =
          let phase = subst (λ (u : WorkerState S P). PhaseMayStep t fits b.setup b.core (t.frame_of b.given) (IsOut b) u.phase) is_then may_after.phase in
          let out : t.trail_of turn.state ++ events_of turn.events ≡ taken_of (history_at b turn.colour) turn.colour = phase.of_turn.owed.trailed in
          let now : history_at b z ≡ old.history ++ Take z core turn.count ∷ [] = history_becomes a b z (TakeAs z core (Ok turn)) at ∙ at.does.after.history in
          let all : taken_of (history_at b turn.colour) turn.colour ≡ taken_of old.history z ++ take turn.count (queued_of old.history z) =
          ap (λ (k : Colour). taken_of (history_at b k) k) of_colour ∙ ap (λ h. taken_of h z) now ∙ taken_after old.history z core turn.count in
          cancel_behind (t.trail_of turn.state) (taken_of old.history z) (take turn.count (queued_of old.history z)) (ap (λ l. t.trail_of turn.state ++ l) (sym events_are) ∙ out ∙ all)

      counted : (own : Bool) → (z.0 == c.0) ≡ own → (if own then sum_along number (taken_of old.history c) (take turn.count (queued_of old.history c)) else 0) ≡ (if own then sum_along number (t.trail_of turn.state) (events_of turn.events) else 0)
      counted true same =
          let is_c : z ≡ c = same_colour z c (eqb-true z.0 c.0 same) in
          ap (λ (k : Colour). sum_along number (taken_of old.history k) (take turn.count (queued_of old.history k))) (sym is_c)
          ∙ ap (λ l. sum_along number l (take turn.count (queued_of old.history z))) (sym trail_is)
          ∙ ap (λ l. sum_along number (t.trail_of turn.state) l) (sym events_are)
      counted false same = refl

      takes_taken : taken_at b ≡ taken_at a + count_left t c number (Turning turn Nothing [])
      takes_taken =
          let share = counted (z.0 == c.0) refl in
          let of_turn : share_take c number old.history (Take z core turn.count) ≡ count_left t c number (Turning turn Nothing []) = share ∙ ap (λ (k : Colour). if k.0 == c.0 then sum_along number (t.trail_of turn.state) (events_of turn.events) else 0) (sym of_colour) in
          let more = take_more before.setup c number old.history (Take z core turn.count) (old_legal z old at.was) in
          grown a b c z (TakeAs z core (Ok turn)) at told_taken (Take z core turn.count) (count_left t c number (Turning turn Nothing [])) at.does.after.history
          (more ∙ ap (λ n. told_taken old.history + n) of_turn)
          (λ apart. sym of_turn ∙ apart_none c z _ apart)

    turns : CountsTakes (side_words t (λ _. Unit {0})) y app a b w made v t c number taken_at
    turns = record {
      takes = takes_taken;
      untaken = λ d why at. kept a b c d (TakeAs d core (Err why)) at told_taken at.does.0.history;
      registers = registers_taken;
      finishes = λ turn answer at. untaken turn.colour (FinishAs turn answer) at (Fin turn.colour turn.core turn.count) at.does.0.after.history refl;
      steals = steals_taken;
      pushes = λ to mark answer at. ap told_taken (chained a b c to _ at);
      pops = λ answer at. ap told_taken (chained a b c core _ at);
      retells = λ to d started worth found at. ap told_taken (chained a b c to _ at);
      picks = λ to answer at. ap told_taken (chained a b c to _ at);
    }

  -- ---- both

  owed_once : (d : Colour) (k count : ℕ) (trail other : List Event) → IsOut a d k count trail → IsOut a d k count other → trail ≡ other
  owed_once d k count trail other one two = one.trailed ∙ sym two.trailed

  pub runs_well : AllByRecursion (λ run. IsRunOf t fits y app before.setup (t.frame_of before.given) run × (t.trail_of run.becomes ≡ t.trail_of run.state ++ run.event ∷ [])) (runs_of (side_words t (λ _. Unit {0})) y app a b w made v line)
  runs_well = well_step (side_words t (λ _. Unit {0})) y app a b w made v t fits owed_once may_before may_after line

  pub runs_made : (c : Colour) (number : List Event → Event → ℕ) → sum_by (count_run t c number) (runs_of (side_words t (λ _. Unit {0})) y app a b w made v line) + count_left t c number v.phase + taken_at c number a ≡ count_left t c number w.phase + taken_at c number b
  runs_made c number = ran_step (side_words t (λ _. Unit {0})) y app a b w made v t c number (taken_at c number) (turns c number) line (all_map _ (λ run. t.trail_of run.becomes ≡ t.trail_of run.state ++ run.event ∷ []) (runs_of (side_words t (λ _. Unit {0})) y app a b w made v line) (λ run both. both.1) runs_well)
