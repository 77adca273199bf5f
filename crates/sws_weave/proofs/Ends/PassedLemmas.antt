-- What a gate was told of a run, by the account of the run's handlers: each of these passed before.
use Rattle.std.proofs.Common.{◌≡◌, ℕ, zero, suc, ◌+◌, ◌≤◌, ◌<◌, ◌⊎◌, ◌==◌, Bool, true, false, true≢false, if◌then◌else◌, List, [], ◌∷◌, ◌++◌, Option, Some, map, refl, sym, ◌∙◌, ap, subst, arith, inl, inr, eq-eqb}
use Rattle.std.proofs.lemmas.Bool.Decides.{eqb_tells}
use Rattle.std.proofs.lemmas.List.Sums.{sum_by-cons}
use Rattle.std.proofs.lemmas.Option.{slice_get-map, same_Some}
use Rattle.std.specs.List.{AllByRecursion}
use Rattle.std.specs.Prelude.{◌&&◌, sum_by, slice_get, option_map, take}
use Rattle.mely_event.specs.declared.colour.Colour.{Colour}
use Rattle.mely_event.specs.declared.event.Event.{Event}
use Rattle.mely_event.specs.declared.trail.Trail.{Ghosts as TrailWords}
use Rattle.mely_history.specs.History.{registered_of, begun_of, ended_of, ran_of}
use Rattle.mely_history.specs.Setup.{shape_of}
use Rattle.mely_history.specs.declared.entry.Entry.{Entry}
use Rattle.mely_history.proofs.LegalAccountLemmas.{ended_within}
use Rattle.mely_shard.specs.Shard.{ShardState}
use Rattle.mely_tally.specs.Account.{HandlerRun, IsAccounted, IsRunOf, count_run, count_left, sum_along, taken_of}
use Rattle.mely_tally.specs.Tells.{IsTakenApart}
use Rattle.mely_tally.proofs.SumsLemmas.{sum_nowhere}
use Rattle.mely_weave.proofs.Wholes.GatherLemmas.{get_there}
use Rattle.mely_weave.specs.Drains.{AllFree}
use Rattle.mely_weave.specs.Side.{history_for, history_in, shard_of}
use Rattle.mely_weave.specs.StandsWell.{StandsWell}
use Rattle.mely_weave.specs.Weave.{WeaveState}
use Rattle.mely_worker.specs.declared.app.App.{Ghosts as AppWords}
use Rattle.mely_worker.specs.declared.phase.Phase.{Phase}
use Rattle.mely_worker.specs.declared.phase.Phase.TheVariants.{Free, Popped, Picked, Landing, Pushing, Turning}
use Rattle.mely_worker.specs.Phase.{is_free}
use Rattle.mely_worker.specs.Worker.{WorkerState}
use Rattle.sws_handlers.specs.Counting.{bit}
use Rattle.sws_handlers.specs.Place.{PlaceState}
use Rattle.sws_handlers.specs.declared.load.Load.{Load}
use Rattle.sws_handlers.specs.declared.place.Frame.{Frame}
use Rattle.sws_weave.specs.Passed.{WeavePassed, TrailsPassed, StatesPassed}
use Rattle.sws_weave.proofs.Ends.ConcludedLemmas.{all_at, from_map}

-- ---- of free workers

pub free_count : {S P F : Type 0} (t : TrailWords S F) (c : Colour) (number : List Event → Event → ℕ) (phase : Phase S P) → is_free phase ≡ true → count_left t c number phase ≡ 0
free_count t c number (Free place) free = refl
free_count t c number (Popped mark) free = cc
free_count t c number (Picked mark victim) free = cc
free_count t c number (Landing mark) free = cc
free_count t c number (Pushing core mark) free = cc
free_count t c number (Turning turn hand puts) free = cc

-- ---- an event is counted where it is this one

abbrev is_this : Event → Event → ℕ
is_this e event = bit ((event.handler == e.handler) && (event.arg == e.arg))

abbrev event_with : ℕ → ℕ → Event
event_with handler arg = record { handler = handler; arg = arg }

abbrev colour_with : ℕ → Colour
colour_with number = record { 0 = number }

this_is_one : (e : Event) → is_this e e ≡ 1
this_is_one e = ap (λ b. bit (b && (e.arg == e.arg))) (eq-eqb e.handler e.handler refl) ∙ ap bit (eq-eqb e.arg e.arg refl)

both_true : (a b : Bool) → 1 ≤ bit (a && b) → (a ≡ true) × (b ≡ true)
both_true true true some = (refl, refl)
both_true true false some = absurd (omega (arith, some))
both_true false b some = absurd (omega (arith, some))

is_same : (n m : ℕ) → (n == m) ≡ true → n ≡ m
is_same n m is = elim (eqb_tells n m) [ inl same ↦ same.1 | inr apart ↦ absurd (true≢false (sym is ∙ apart.0)) ]

this_same : (e event : Event) → 1 ≤ is_this e event → event ≡ e
this_same e event some =
    let both = both_true (event.handler == e.handler) (event.arg == e.arg) some in
    ap (λ n. event_with n event.arg) (is_same event.handler e.handler both.0) ∙ ap (λ n. event_with e.handler n) (is_same event.arg e.arg both.1)

along_some : (e : Event) (before xs : List Event) (k : ℕ) → slice_get xs k ≡ Some e → 1 ≤ sum_along (λ _ event. is_this e event) before xs
along_some e before [] k at = cc
along_some e before (x ∷ xs) zero at = let same = ap (is_this e) (same_Some x e at) in let one = this_is_one e in omega (arith, same, one)
along_some e before (x ∷ xs) (suc k) at = let rest = along_some e (before ++ x ∷ []) xs k at in omega (arith, rest)

if_counts : (b : Bool) (n : ℕ) → 1 ≤ (if b then n else 0) → (b ≡ true) × (1 ≤ n)
if_counts true n some = (refl, some)
if_counts false n some = absurd (omega (arith, some))

-- ---- one of a list counts where the sum does

-- it stands there
record Counts {A : Type 0} (f : A → ℕ) (xs : List A) : Type 0 where
  i : ℕ
  x : A
  there : slice_get xs i ≡ Some x
  some : 1 ≤ f x

zero_or_some : (n : ℕ) → (n ≡ 0) ⊎ (1 ≤ n)
zero_or_some zero = inl refl
zero_or_some (suc n) = inr (omega arith)

one_counts : {A : Type 0} (f : A → ℕ) (xs : List A) → 1 ≤ sum_by f xs → Counts f xs
one_counts f [] some = absurd (omega (arith, some))
one_counts f (x ∷ xs) some = elim (zero_or_some (f x)) [
  | inl none ↦
      let first = sum_by-cons f x xs in
      let rest = one_counts f xs (omega (arith, some, first, none)) in
      record { i = suc rest.i; x = rest.x; there = rest.there; some = rest.some }
  | inr here ↦ record { i = 0; x = x; there = refl; some = here }
]

pub each_from : {A : Type 0} (P : A → Type 0) (xs : List A) → ((k : ℕ) (a : A) → slice_get xs k ≡ Some a → P a) → AllByRecursion P xs
each_from P [] each = tt
each_from P (x ∷ xs) each = (each 0 x refl, each_from P xs (λ k a at. each (suc k) a at))

module _ {R S P F : Type 0} (t : TrailWords S F) (fits : F → Colour → Event → Option P → Type 0) (y : AppWords R P S F) (app : R) (passed : Colour → Event → Type 0)
    (tells : (state : S) (event : Event) (load : Option P) (becomes : S) (puts : List (Colour × Event × Option P)) → y.runs app state event load becomes puts → passed (t.colour_of state) event)
    (posted : List (Colour × Event × Option P)) (weave : WeaveState S P) (free : AllFree weave) (accounted : IsAccounted t fits y app posted weave) where
  one_passed : (c : Colour) (k : ℕ) (e : Event) → slice_get (taken_of (history_for weave.setup weave.shards c) c) k ≡ Some e → passed c e
  one_passed c k e at =
      let number : List Event → Event → ℕ = λ _ event. is_this e event in
      let all = accounted.1.ran c number in
      let left = sum_nowhere (λ (w : WorkerState S P). count_left t c number w.phase) weave.workers (λ n w there. free_count t c number w.phase (free n w there)) in
      let some = along_some e [] (taken_of (history_for weave.setup weave.shards c) c) k at in
      let one : Counts (count_run t c number) accounted.0 = one_counts (count_run t c number) accounted.0 (omega (arith, all, left, some)) in
      let run : HandlerRun S P = one.x in
      let is = all_at (IsRunOf t fits y app weave.setup (t.frame_of weave.given)) accounted.0 one.i run accounted.1.each one.there in
      let here = if_counts (run.colour.0 == c.0) (is_this e run.event) one.some in
      let of_colour : t.colour_of run.state ≡ c = is.coloured ∙ ap colour_with (is_same run.colour.0 c.0 here.0) in
      subst (λ (k : Colour). passed k e) of_colour (subst (λ (event : Event). passed (t.colour_of run.state) event) (this_same e run.event here.1) (tells run.state run.event run.load run.becomes run.puts is.ran))

  -- each event that was taken on a colour has passed
  pub taken_passed : WeavePassed passed weave
  taken_passed c = each_from (passed c) (taken_of (history_for weave.setup weave.shards c) c) (λ k e at. one_passed c k e at)

-- ---- of the parts

front_all : {A : Type 0} (P : A → Type 0) (xs : List A) (n m : ℕ) → n ≤ m → AllByRecursion P (take m xs) → AllByRecursion P (take n xs)
front_all P xs zero m low all = tt
front_all P [] (suc n) m low all = tt
front_all P (x ∷ xs) (suc n) zero low all = absurd (omega (arith, low))
front_all P (x ∷ xs) (suc n) (suc m) low all = (all.0, front_all P xs n m (omega (arith, low)) all.1)

module _ {W L T H : Type 0} (t : TrailWords (PlaceState H W T) (Frame H W)) (fits : Frame H W → Colour → Event → Option (Load W L) → Type 0) (passed : Colour → Event → Type 0) (weave : WeaveState (PlaceState H W T) (Load W L))
    (histories : List (List Entry)) (states : List (PlaceState H W T)) (queued : List (List (Event × Option (Load W L)))) (lost : List (Colour × Event × Option (Load W L)))
    (apart : IsTakenApart t weave histories states queued lost) (well : StandsWell t fits weave) (told : histories ≡ map (λ has. has.history) weave.shards) (trail_is : (s : PlaceState H W T) → t.trail_of s ≡ s.trail) (all : WeavePassed passed weave) where
  -- each event of the trails of the states that a weave was taken apart into has passed
  pub states_passed : StatesPassed passed states
  states_passed i trail at =
      let c : Colour = colour_with i in
      let place = from_map (λ (s : PlaceState H W T). s.trail) states i trail at in
      let some : 1 ≤ (shape_of weave.setup).shards = weave.setup.shards_in.0 in
      let many = well.shards in
      let has = get_there weave.shards (shard_of weave.setup c) (omega (arith, some, many)) in
      let history : List Entry = has.0.history in
      let there : slice_get histories (shard_of weave.setup c) ≡ Some history =
      ap (λ (hs : List (List Entry)). slice_get hs (shard_of weave.setup c)) told
      ∙ slice_get-map (λ (has : ShardState (PlaceState H W T) (Load W L)). has.history) weave.shards (shard_of weave.setup c)
      ∙ ap (λ o. option_map (λ (has : ShardState (PlaceState H W T) (Load W L)). has.history) o) has.1 in
      let ran : ran_of history c ≡ trail = sym (apart.trailed c place.0 history place.1 there) ∙ trail_is place.0 ∙ place.2 in
      let taken : AllByRecursion (passed c) (taken_of history c) = subst (λ (h : List Entry). AllByRecursion (passed c) (taken_of h c)) (ap (λ o. history_in o) has.1) (all c) in
      subst (λ (events : List Event). AllByRecursion (passed c) events) ran
      (front_all (passed c) (registered_of history c) (ended_of history c) (begun_of history c) (ended_within weave.setup history c (apart.legal.legal (shard_of weave.setup c) history there)) taken)

-- where there are none, there is nothing to pass
pub none_passed : (passed : Colour → Event → Type 0) (trails : List (List Event)) → trails ≡ [] → TrailsPassed passed trails
none_passed passed [] none i trail at = cc
none_passed passed (trail ∷ trails) none i other at = cc
