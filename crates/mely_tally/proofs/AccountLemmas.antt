-- The runs that are made on the way to a weave account for what is registered, over each step, each
-- run of a schedule and each drain.
use Rattle.std.proofs.Common.{◌≡◌, ℕ, zero, suc, ◌+◌, List, [], ◌∷◌, ◌++◌, Option, None, Some, refl, sym, ap, subst, arith}
use Rattle.std.proofs.lemmas.List.Sums.{sum_by-append, sum_by-cons}
use Rattle.std.proofs.lemmas.Option.{same_Some}
use Rattle.std.specs.List.{AllByRecursion}
use Rattle.std.specs.Prelude.{slice_get, slice_set, sum_by}
use Rattle.mely_event.specs.declared.colour.Colour.{Colour}
use Rattle.mely_event.specs.declared.event.Event.{Event}
use Rattle.mely_event.specs.declared.trail.Trail.{Ghosts as TrailWords}
use Rattle.mely_history.specs.History.{registered_of}
use Rattle.mely_worker.specs.declared.app.App.{Ghosts as AppWords}
use Rattle.mely_worker.specs.declared.made.Made.{Made}
use Rattle.mely_worker.specs.Worker.{WorkerState}
use Rattle.mely_weave.specs.declared.draining.Drained.{Drained}
use Rattle.mely_weave.specs.declared.running.Went.{Went}
use Rattle.mely_weave.specs.Calls.{side_words}
use Rattle.mely_weave.specs.Drains.{Drains}
use Rattle.mely_weave.specs.Runs.{StepsWell, RunsTo}
use Rattle.mely_history.specs.declared.setup.Setup.{Setup}
use Rattle.mely_shard.specs.Shard.{ShardState}
use Rattle.mely_weave.specs.Making.{IsInitialWeave, initial_worker}
use Rattle.mely_weave.specs.Side.{history_for, history_at, history_in, shard_of}
use Rattle.mely_weave.specs.StandsWell.{StandsWell}
use Rattle.mely_weave.specs.Weave.{WeaveState}
use Rattle.mely_weave.proofs.Runs.RunLemmas.{well_same}
use Rattle.mely_tally.proofs.CarryingLemmas.{carry_run, carry_drain}
use Rattle.mely_tally.proofs.StepAccountLemmas.{runs_of}
use Rattle.mely_tally.proofs.SumsLemmas.{sum_nowhere}
use Rattle.mely_tally.proofs.WeaveAccountLemmas.{a, line, all-append, all_map, puts_made, runs_made, runs_well}
use Rattle.mely_tally.specs.Account.{IsRunOf, IsAccounted, count_puts, count_run, count_due, count_left, sum_along, taken_of}

-- one of a list becomes another
sum_one_set : {X : Type 0} (f : X → ℕ) (xs : List X) (k : ℕ) (x y : X) → slice_get xs k ≡ Some x → sum_by f (slice_set xs k y) + f x ≡ sum_by f xs + f y
sum_one_set f [] k x y at = cc
sum_one_set f (z ∷ zs) zero x y at =
    let same = ap f (same_Some z x at) in
    let now = sum_by-cons f y zs in
    let was = sum_by-cons f z zs in
    omega (arith, same, now, was)
sum_one_set f (z ∷ zs) (suc k) x y at =
    let rest = sum_one_set f zs k x y at in
    let now = sum_by-cons f z (slice_set zs k y) in
    let was = sum_by-cons f z zs in
    omega (arith, rest, now, was)

module _ {R S P F : Type 0} (t : TrailWords S F) (fits : F → Colour → Event → Option P → Type 0) (y : AppWords R P S F) (app : R) (posted : List (Colour × Event × Option P)) where
  pub account_step : (before after : WeaveState S P) (core : ℕ) (made : Made) → StandsWell t fits before → StepsWell t fits y app before core made after → IsAccounted t fits y app posted before → IsAccounted t fits y app posted after
  account_step before after core made well is (runs, account) =
      let steps = is.call.steps in
      let new = runs_of (side_words t (λ _. Unit {0})) y app (a t fits y app before after core made well is) steps.side steps.worker made steps.becomes (line t fits y app before after core made well is) in
      let same = well_same t fits y app before after core made is in
      let workers : after.workers ≡ slice_set before.workers core steps.becomes = ap (λ (x : WeaveState S P). x.workers) steps.leaves in
      let history : (c : Colour) → history_for after.setup after.shards c ≡ history_at steps.side c = λ c. ap (λ (x : WeaveState S P). history_for x.setup x.shards c) steps.leaves in (
        runs ++ new,
        record {
          each = subst (λ s. AllByRecursion (IsRunOf t fits y app s (t.frame_of after.given)) (runs ++ new)) (sym same.setup)
              (subst (λ g. AllByRecursion (IsRunOf t fits y app before.setup (t.frame_of g)) (runs ++ new)) (sym same.given)
              (all-append (IsRunOf t fits y app before.setup (t.frame_of before.given)) runs new account.each
              (all_map _ (IsRunOf t fits y app before.setup (t.frame_of before.given)) new (λ run both. both.0) (runs_well t fits y app before after core made well is))));
          put = λ c number.
              let was = account.put c number in
              let step = puts_made t fits y app before after core made well is c number in
              let now = ap (λ h. sum_by number (registered_of h c)) (history c) in
              let all = ap (λ ws. sum_by (λ x. count_due c number x) ws) workers in
              let set = sum_one_set (λ x. count_due c number x) before.workers core steps.worker steps.becomes steps.was in
              let both = sum_by-append (λ run. count_puts c number run.puts) runs new in
              omega (arith, was, step, now, all, set, both);
          ran = λ c number.
              let was = account.ran c number in
              let step = runs_made t fits y app before after core made well is c number in
              let now = ap (λ h. sum_along number [] (taken_of h c)) (history c) in
              let all = ap (λ ws. sum_by (λ x. count_left t c number x.phase) ws) workers in
              let set = sum_one_set (λ x. count_left t c number x.phase) before.workers core steps.worker steps.becomes steps.was in
              let both = sum_by-append (count_run t c number) runs new in
              omega (arith, was, step, now, all, set, both);
        },
      )

  pub account_run : (before after : WeaveState S P) (cores : List ℕ) (went : Went) → StandsWell t fits before → RunsTo t fits y app before cores went after → IsAccounted t fits y app posted before → IsAccounted t fits y app posted after
  account_run before after cores went well runs is = (carry_run t fits y app (IsAccounted t fits y app posted) account_step before after cores went runs (well, is)).1

  pub account_drain : (before after : WeaveState S P) (drained : Drained) → StandsWell t fits before → Drains t fits y app before drained after → IsAccounted t fits y app posted before → IsAccounted t fits y app posted after
  account_drain before after drained well drains is = (carry_drain t fits y app (IsAccounted t fits y app posted) account_step before after drained drains (well, is)).1

  -- ---- at first nothing was posted, put or run

  no_history : (o : Option (ShardState S P)) → ((has : ShardState S P) → o ≡ Some has → has.history ≡ []) → history_in o ≡ []
  no_history None none = refl
  no_history (Some has) none = none has refl

  first_due : (setup : Setup) (core : ℕ) (w : WorkerState S P) (c : Colour) (number : Event → ℕ) → w ≡ initial_worker setup core → count_due c number w ≡ 0
  first_due setup core w c number is = ap (λ (x : WorkerState S P). count_due c number x) is

  first_left : (setup : Setup) (core : ℕ) (w : WorkerState S P) (c : Colour) (number : List Event → Event → ℕ) → w ≡ initial_worker setup core → count_left t c number w.phase ≡ 0
  first_left setup core w c number is = ap (λ (x : WorkerState S P). count_left t c number x.phase) is

module _ {R S P F : Type 0} (t : TrailWords S F) (fits : F → Colour → Event → Option P → Type 0) (y : AppWords R P S F) (app : R) where
  pub account_first : (setup : Setup) (states : List S) (weave : WeaveState S P) → IsInitialWeave setup states weave → IsAccounted t fits y app [] weave
  account_first setup states weave is =
      let none : (c : Colour) → history_for weave.setup weave.shards c ≡ [] = λ c. no_history t fits y app [] (slice_get weave.shards (shard_of weave.setup c)) (λ has at. is.no_entry (shard_of weave.setup c) has at) in (
        [],
        record {
          each = tt;
          put = λ c number.
              let registered = ap (λ h. sum_by number (registered_of h c)) (none c) in
              let due = sum_nowhere (λ (x : WorkerState S P). count_due c number x) weave.workers (λ core w at. first_due t fits y app [] setup core w c number (is.worker core w at)) in
              omega (arith, registered, due);
          ran = λ c number.
              let taken = ap (λ h. sum_along number [] (taken_of h c)) (none c) in
              let left = sum_nowhere (λ (x : WorkerState S P). count_left t c number x.phase) weave.workers (λ core w at. first_left t fits y app [] setup core w c number (is.worker core w at)) in
              omega (arith, taken, left);
        },
      )
