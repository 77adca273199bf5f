-- Where a run's weave is drained and nothing was refused, what its handlers put was registered.
use Rattle.std.proofs.Common.{◌≡◌, ℕ, suc, true, List, [], ◌∷◌, ◌++◌, Option, None, Some, length, map, refl, sym, ◌∙◌, ap, subst, arith}
use Rattle.std.proofs.lemmas.List.Sums.{sum_by-cons}
use Rattle.std.proofs.lemmas.Option.{slice_get-map, same_Some}
use Rattle.std.specs.Prelude.{sum_by, slice_get, option_map, flat_map}
use Rattle.mely_event.specs.declared.colour.Colour.{Colour}
use Rattle.mely_event.specs.declared.event.Event.{Event}
use Rattle.mely_event.specs.declared.trail.Trail.{Ghosts as TrailWords}
use Rattle.mely_history.specs.declared.entry.Entry.{Entry}
use Rattle.mely_history.specs.declared.setup.Setup.{Setup}
use Rattle.mely_history.specs.History.{registered_of, begun_of}
use Rattle.mely_history.specs.Legal.{IsDrained}
use Rattle.mely_shard.specs.Shard.{ShardState}
use Rattle.mely_weave.specs.Drains.{AllFree, HistoriesAreDrained}
use Rattle.mely_weave.specs.Side.{history_in, history_for, shard_of}
use Rattle.mely_weave.specs.Weave.{WeaveState}
use Rattle.mely_worker.specs.declared.app.App.{Ghosts as AppWords}
use Rattle.mely_worker.specs.declared.phase.Phase.{Phase}
use Rattle.mely_worker.specs.declared.phase.Phase.TheVariants.{Free, Popped, Picked, Landing, Pushing, Turning}
use Rattle.mely_worker.specs.Phase.{is_free}
use Rattle.mely_worker.specs.Worker.{WorkerState}
use Rattle.mely_tally.specs.Account.{IsAccounted, count_put, count_puts, count_due, count_left, puts_left, sum_along, taken_of}
use Rattle.mely_app.proofs.RanLemmas.{front_whole}
use Rattle.mely_app.specs.Puts.{HasPutAll}

pub free_left : {S P : Type 0} (phase : Phase S P) → is_free phase ≡ true → puts_left phase ≡ []
free_left (Free place) free = refl
free_left (Popped mark) free = cc
free_left (Picked mark victim) free = cc
free_left (Landing mark) free = cc
free_left (Pushing core mark) free = cc
free_left (Turning turn hand puts) free = cc

free_count : {S P F : Type 0} (t : TrailWords S F) (c : Colour) (number : List Event → Event → ℕ) (phase : Phase S P) → is_free phase ≡ true → count_left t c number phase ≡ 0
free_count t c number (Free place) free = refl
free_count t c number (Popped mark) free = cc
free_count t c number (Picked mark victim) free = cc
free_count t c number (Landing mark) free = cc
free_count t c number (Pushing core mark) free = cc
free_count t c number (Turning turn hand puts) free = cc

-- a list of no length
pub none_of : {A : Type 0} (xs : List A) → length xs ≡ 0 → xs ≡ []
none_of [] is = refl
none_of (x ∷ xs) is = absurd (omega (arith, is))

-- nothing is in either of two lists that are nothing together
pub both_none : {A : Type 0} (xs ys : List A) → xs ++ ys ≡ [] → (xs ≡ []) × (ys ≡ [])
both_none [] ys none = (refl, none)
both_none (x ∷ xs) ys none = cc

module _ {S P F : Type 0} (t : TrailWords S F) (c : Colour) where
  due_none : (number : Event → ℕ) (ws : List (WorkerState S P)) → ((i : ℕ) (w : WorkerState S P) → slice_get ws i ≡ Some w → is_free w.phase ≡ true) → flat_map (λ (w : WorkerState S P). w.lost) ws ≡ [] → sum_by (λ (w : WorkerState S P). count_due c number w) ws ≡ 0
  due_none number [] free none = refl
  due_none number (w ∷ ws) free none =
      let apart = both_none w.lost (flat_map (λ (v : WorkerState S P). v.lost) ws) none in
      let left = ap (λ l. count_puts c number l) (free_left w.phase (free 0 w refl)) in
      let lost = ap (λ l. count_puts c number l) apart.0 in
      let rest = due_none number ws (λ i v at. free (suc i) v at) apart.1 in
      let first = sum_by-cons (λ (v : WorkerState S P). count_due c number v) w ws in
      omega (arith, left, lost, rest, first)

  pub left_none : (number : List Event → Event → ℕ) (ws : List (WorkerState S P)) → ((i : ℕ) (w : WorkerState S P) → slice_get ws i ≡ Some w → is_free w.phase ≡ true) → sum_by (λ (w : WorkerState S P). count_left t c number w.phase) ws ≡ 0
  left_none number [] free = refl
  left_none number (w ∷ ws) free =
      let here = free_count t c number w.phase (free 0 w refl) in
      let rest = left_none number ws (λ i v at. free (suc i) v at) in
      let first = sum_by-cons (λ (v : WorkerState S P). count_left t c number v.phase) w ws in
      omega (arith, here, rest, first)

-- the history that comes out is the one of the colour's shard
pub shard_history : {S P : Type 0} (o : Option (ShardState S P)) (history : List Entry) → option_map (λ (has : ShardState S P). has.history) o ≡ Some history → history_in o ≡ history
shard_history None history is = cc
shard_history (Some has) history is = same_Some has.history history is

-- it is drained
shard_drained : {S P : Type 0} (weave : WeaveState S P) → HistoriesAreDrained weave → (k : ℕ) (o : Option (ShardState S P)) → slice_get weave.shards k ≡ o → IsDrained (history_in o)
shard_drained weave drained k None at = λ c. record { at_rest = refl; none_queued = refl }
shard_drained weave drained k (Some has) at = drained k has at

pub has_put_all : {R S P F : Type 0} (t : TrailWords S F) (fits : F → Colour → Event → Option P → Type 0) (y : AppWords R P S F) (app : R) (setup : Setup) (frame : F) (begin : Colour × Event × Option P) (weave : WeaveState S P) (histories : List (List Entry)) (lost : List (Colour × Event × Option P))
    → weave.setup ≡ setup → t.frame_of weave.given ≡ frame → histories ≡ map (λ (has : ShardState S P). has.history) weave.shards → AllFree weave → HistoriesAreDrained weave → lost ≡ flat_map (λ (w : WorkerState S P). w.lost) weave.workers → lost ≡ []
    → IsAccounted t fits y app (begin ∷ []) weave → HasPutAll t fits y app setup frame begin histories
has_put_all {R} {S} {P} t fits y app setup frame begin weave histories lost of_setup of_frame are free drained refused none (runs, account) =
    let nothing = sym refused ∙ none in
    let history_is : (c : Colour) (history : List Entry) → slice_get histories (shard_of weave.setup c) ≡ Some history → history_for weave.setup weave.shards c ≡ history = λ c history at.
    shard_history (slice_get weave.shards (shard_of weave.setup c)) history (sym (slice_get-map (λ (has : ShardState S P). has.history) weave.shards (shard_of weave.setup c)) ∙ ap (λ (l : List (List Entry)). slice_get l (shard_of weave.setup c)) (sym are) ∙ at) in
    let whole : HasPutAll t fits y app weave.setup (t.frame_of weave.given) begin histories = (
      runs,
      record {
        each = account.each;
        put = λ c history at number.
            let all = account.put c number in
            let same = ap (λ h. sum_by number (registered_of h c)) (history_is c history at) in
            let due = due_none t c number weave.workers free nothing in
            let first = sum_by-cons (count_put c number) begin [] in
            omega (arith, all, same, due, first);
        ran = λ c history at number.
            let all = account.ran c number in
            let left = left_none t c number weave.workers free in
            let rests = shard_drained weave drained (shard_of weave.setup c) (slice_get weave.shards (shard_of weave.setup c)) refl c in
            let taken : taken_of (history_for weave.setup weave.shards c) c ≡ registered_of (history_for weave.setup weave.shards c) c = front_whole (begun_of (history_for weave.setup weave.shards c) c) (registered_of (history_for weave.setup weave.shards c) c) rests.none_queued in
            let same = ap (λ l. sum_along number [] l) (taken ∙ ap (λ h. registered_of h c) (history_is c history at)) in
            omega (arith, all, left, same);
      },
    ) in
    subst (λ f. HasPutAll t fits y app setup f begin histories) of_frame (subst (λ s. HasPutAll t fits y app s (t.frame_of weave.given) begin histories) of_setup whole)
