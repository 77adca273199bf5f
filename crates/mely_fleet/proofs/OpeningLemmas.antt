-- A fleet as it is made.
use Rattle.std.proofs.Common.{◌≡◌, ℕ, ◌+◌, ◌*◌, ◌%◌, ◌<◌, ◌≤◌, List, [], ◌∷◌, ◌++◌, length-append, Some, length, map, refl, sym, ◌∙◌, ap, arith, zero, suc, All}
use Rattle.std.specs.Prelude.{slice_get, slice_index_or, option_map}
use Rattle.std.proofs.lemmas.Option.{slice_get-get_or, slice_get_within, slice_get-map, get_or_from_slice_get, unwrap_or-slice_get}
use Rattle.std.proofs.lemmas.List.Elements.{All-from_recursion}
use Rattle.std.proofs.Math.Seq.{get_or-append_seam}
use Rattle.mely_note.specs.declared.note.Note.{Note}
use Rattle.mely_event.specs.declared.trail.Trail.{Ghosts as TrailWords}
use Rattle.mely_history.specs.declared.setup.Setup.{Setup}
use Rattle.mely_history.specs.Setup.{shape_of, place}
use Rattle.mely_event.specs.declared.colour.Colour.{Colour}
use Rattle.std.proofs.lemmas.Nat.{div-add-mod'}
use Rattle.mely_weave.specs.Side.{shard_of}
use Rattle.mely_note.specs.ShowsNotes.{IsUntouched}
use Rattle.mely_kept.proofs.MadeLemmas.{untouched_initial}
use Rattle.mely_shard.specs.Shard.{ShardState, IsInitialShard, givens}
use Rattle.mely_weave.specs.Dealing.{AreDealt}
use Rattle.mely_weave.proofs.Wholes.DealLemmas.{each_push, both_push}
use Rattle.mely_lock.specs.declared.ticketed.Ticketed.{Ticketed}
use Rattle.mely_lock.specs.declared.pass.Pass.{Pass}
use Rattle.mely_lock.specs.Words.{initial_value, IsPassOf, IsOutside, front}
use Rattle.mely_core.specs.CoreQueue.{CoreQueueState}
use Rattle.mely_weave.specs.Making.{AreInitial, empty_chain}
use Rattle.mely_weave.proofs.Wholes.GatherLemmas.{get_there}
use Rattle.std.specs.List.{AllByRecursion}
use Rattle.mely_kept.specs.declared.kept_shard.ShardFrame.{ShardFrame}
use Rattle.mely_kept_chain.specs.declared.kept_chain.ChainFrame.{ChainFrame}
use Rattle.mely_fleet.specs.Fleets.{frame_for, chain_frame_for, first_of_some}
use Rattle.mely_fleet.specs.Rows.{IsPassAt, AreFramed, fronts}
use Rattle.mely_fleet.specs.Dealing.{IsInitialRow}
use Rattle.mely_kept.specs.Frames.{HaveFrame, shard_frame}
use Rattle.mely_kept_chain.specs.Frames.{chain_frame, numbers_of}
use Rattle.mely_kept_chain.specs.KeptChain.{KeptChainState}
use Rattle.mely_kept.specs.KeptShard.{KeptShardState}

module _ {S P F : Type 0} (t : TrailWords S F) (setup : Setup) (states : List S) (first : AreInitial t setup states) (shards : List (ShardState S P)) (dealt : AreDealt givens (shape_of setup).shards states shards)
    (are : (shard : ℕ) (has : ShardState S P) → slice_get shards shard ≡ Some has → IsInitialShard setup shard (givens has) has) where
  -- the states of each shard have the frame of the first state
  pub shard_framed : (given : S) → slice_get states 0 ≡ Some given → (k : ℕ) (has : ShardState S P) → slice_get shards k ≡ Some has → HaveFrame t.frame_of (t.frame_of given) (givens has)
  shard_framed given at k has here i state is = first.one_frame (i * (shape_of setup).shards + k) 0 state given (sym (dealt.each k has here i) ∙ is) at

  -- each shard is the setup's of its number
  pub shard_is_own : (k : ℕ) (has : ShardState S P) → slice_get shards k ≡ Some has → (has.setup ≡ setup) × (has.shard ≡ k)
  shard_is_own k has here = let is = are k has here in (is.of_setup, is.of_shard)

  -- and nothing was registered there
  pub shard_untouched : (k : ℕ) (has : ShardState S P) → slice_get shards k ≡ Some has → IsUntouched has
  shard_untouched k has here = untouched_initial setup k (givens has) has (are k has here)

  -- the states that it was given are those of its colours
  given_to : (c : Colour) (has : ShardState S P) → slice_get shards (shard_of setup c) ≡ Some has → slice_get (givens has) (place setup c) ≡ slice_get states c.0
  given_to c has here = dealt.each (shard_of setup c) has here (place setup c) ∙ ap (slice_get states) (div-add-mod' c.0 (shape_of setup).shards)

  -- so it is where these are the shards' givens
  pub states_given : (at : ℕ → List S) → ((k : ℕ) (has : ShardState S P) → slice_get shards k ≡ Some has → at k ≡ givens has) → (c : Colour) → slice_get (at (shard_of setup c)) (place setup c) ≡ slice_get states c.0
  states_given at is c =
      let many = dealt.many in
      let has = get_there shards (shard_of setup c) (let some : 1 ≤ (shape_of setup).shards = setup.shards_in.0 in omega (arith, some, many)) in
      ap (λ xs. slice_get xs (place setup c)) (is (shard_of setup c) has.0 has.1) ∙ given_to c has.0 has.1

-- nothing stands in an empty list
pub nothing_at : {A : Type 0} (k : ℕ) (x : A) → slice_get [] k ≡ Some x → ⊥
nothing_at k x at = let low = slice_get_within [] k x at in omega (arith, low)

-- a row of no passes, for no lock
pub no_passes : {V N F : Type 0} {g : _} (frame_of : V → F) (n : ℕ) (row : List (Pass V N F g)) → length row ≡ 0 → IsInitialRow frame_of [] n row
no_passes frame_of n [] none = record {
  are = record { many = refl; each = λ k lock pass there at. absurd (nothing_at k lock there) };
  unseen = λ k pass at. absurd (nothing_at k pass at);
}
no_passes frame_of n (pass ∷ row) none = absurd (omega (arith, none))

first_of : {A B C : Type 0} → A × B × C → A
first_of (a, b, c) = a

second_of : {A B C : Type 0} → A × B × C → B
second_of (a, b, c) = b

third_of : {A B C : Type 0} → A × B × C → C
third_of (a, b, c) = c

module _ {V N F : Type 0} {g : _} (frame_of : V → F) (locks : List (Ticketed V N F)) (n : ℕ) (row : List (Pass V N F g)) (first : IsInitialRow frame_of locks n row) (lock : Ticketed V N F) (pass : Pass V N F g) (fresh : IsPassOf frame_of lock pass × IsOutside pass × (front pass ≡ [])) (numbered : pass.number ≡ n) where
  -- one more lock, and a pass of it
  pub row_grow : IsInitialRow frame_of (locks ++ lock ∷ []) n (row ++ pass ∷ [])
  row_grow = record {
    are = record {
      many = length-append row (pass ∷ []) ∙ ap (λ m. m + 1) first.are.many ∙ sym (length-append locks (lock ∷ []));
      each = both_push (λ _ l p. IsPassAt frame_of l n p) locks row lock pass (length locks) refl first.are.many first.are.each (record { of_lock = first_of {A = IsPassOf frame_of lock pass} {B = IsOutside pass} {C = front pass ≡ []} fresh; outside = second_of {A = IsPassOf frame_of lock pass} {B = IsOutside pass} {C = front pass ≡ []} fresh; numbered = numbered });
    };
    unseen = each_push (λ _ p. front p ≡ []) row pass (length row) refl first.unseen (third_of {A = IsPassOf frame_of lock pass} {B = IsOutside pass} {C = front pass ≡ []} fresh);
  }

-- what stands where two lists meet
pub at_seam : {A : Type 0} (xs : List A) (y : A) (rest : List A) → slice_get (xs ++ y ∷ rest) (length xs) ≡ Some y
at_seam xs y rest = slice_get-get_or (xs ++ y ∷ rest) (length xs) y (let many : length (xs ++ y ∷ rest) ≡ length xs + length (y ∷ rest) = length-append xs (y ∷ rest) in omega (arith, many)) ∙ ap (λ x. Some x) (get_or-append_seam xs y rest y)

-- one number more, of those that fit in two bytes
pub number_onward : {A : Type 0} (number : ℕ) (before : List A) (here : A) (rest all : List A) → number ≡ length before → before ++ here ∷ rest ≡ all → length all ≤ 65535 → (number + 1) % 65536 ≡ length (before ++ here ∷ [])
number_onward number before here rest all is split few =
    let many : length before + length (here ∷ rest) ≡ length all = sym (length-append before (here ∷ rest)) ∙ ap length split in
    let longer : length (before ++ here ∷ []) ≡ length before + 1 = length-append before (here ∷ []) in
    let low : number + 1 < 65536 = omega (arith, is, many, few) in
    omega (arith, low, longer, is)

-- passes that have seen nothing, by place
pub all_unseen : {V N F : Type 0} {g : _} (row : List (Pass V N F g)) → ((k : ℕ) (pass : Pass V N F g) → slice_get row k ≡ Some pass → front pass ≡ []) → (k : ℕ) → slice_index_or (fronts row) k [] ≡ []
all_unseen [] none k = sym (unwrap_or-slice_get [] k [])
all_unseen (pass ∷ row) none zero = none 0 pass refl
all_unseen (pass ∷ row) none (suc k) = all_unseen row (λ j. none (suc j)) k

-- what a shard's lock was told of the states that were given at first stands at its place
givens_here : {V N S F : Type 0} (kept_frame : V → ShardFrame S F) (locks : List (Ticketed V N (ShardFrame S F))) (k : ℕ) (lock : Ticketed V N (ShardFrame S F)) → slice_get locks k ≡ Some lock → slice_index_or (map (λ (l : Ticketed V N (ShardFrame S F)). (kept_frame (initial_value l)).givens.items) locks) k [] ≡ (kept_frame (initial_value lock)).givens.items
givens_here {V} {N} {S} {F} kept_frame locks k lock at =
    get_or_from_slice_get (map (λ (l : Ticketed V N (ShardFrame S F)). (kept_frame (initial_value l)).givens.items) locks) k (kept_frame (initial_value lock)).givens.items []
    (slice_get-map (λ (l : Ticketed V N (ShardFrame S F)). (kept_frame (initial_value l)).givens.items) locks k ∙ ap (option_map (λ (l : Ticketed V N (ShardFrame S F)). (kept_frame (initial_value l)).givens.items)) at)

module _ {S P F : Type 0} (frame_of : S → F) (setup : Setup) (sample : S) (shards : List (ShardState S P)) (kept : List (KeptShardState S P)) (kept_many : length kept ≡ length shards)
    (are : (k : ℕ) (has : ShardState S P) (one : KeptShardState S P) → slice_get shards k ≡ Some has → slice_get kept k ≡ Some one → one ≡ record { has = has; notes = []; sample = sample }) where
  module _ (locks : List (Ticketed (KeptShardState S P) (Note S P) (ShardFrame S F))) (many : length locks ≡ length kept)
      (frames : (k : ℕ) (lock : _) (value : KeptShardState S P) → slice_get locks k ≡ Some lock → slice_get kept k ≡ Some value → shard_frame frame_of (initial_value lock) ≡ shard_frame frame_of value) where
    abbrev frame_at : Ticketed (KeptShardState S P) (Note S P) (ShardFrame S F) → ShardFrame S F
    frame_at lock = shard_frame frame_of (initial_value lock)

    abbrev pub told : ℕ → List S
    told k = slice_index_or (map (λ lock. (frame_at lock).givens.items) locks) k []

    lock_frame : (k : ℕ) (lock : _) (has : ShardState S P) → slice_get locks k ≡ Some lock → slice_get shards k ≡ Some has → frame_at lock ≡ shard_frame frame_of (record { has = has; notes = []; sample = sample })
    lock_frame k lock has at here =
        let low = slice_get_within locks k lock at in
        let one = get_there kept k (omega (arith, low, many)) in
        frames k lock one.0 at one.1 ∙ ap (shard_frame frame_of) (are k has one.0 here one.1)

    -- shards behind their locks have the frames of their places
    pub shards_framed : ((k : ℕ) (has : ShardState S P) → slice_get shards k ≡ Some has → (has.setup ≡ setup) × (has.shard ≡ k)) → AreFramed (shard_frame frame_of) (frame_for setup (frame_of sample) told) locks
    shards_framed own k lock at =
        let low = slice_get_within locks k lock at in
        let has = get_there shards k (omega (arith, low, many, kept_many)) in
        let is = own k has.0 has.1 in
        let same = lock_frame k lock has.0 at has.1 in
        let of_setup : (frame_at lock).setup ≡ setup = ap (λ (f : ShardFrame S F). f.setup) same ∙ is.0 in
        let of_shard : (frame_at lock).shard ≡ k = ap (λ (f : ShardFrame S F). f.shard) same ∙ is.1 in
        let of_states : (frame_at lock).states ≡ frame_of sample = ap (λ (f : ShardFrame S F). f.states) same in
        let of_givens : (frame_at lock).givens.items ≡ told k = sym (givens_here (shard_frame frame_of) locks k lock at) in
        λ i. record { setup = of_setup i; shard = of_shard i; states = of_states i; givens = record { of = record {}; items = of_givens i } }

    -- and were told what their colours were given
    pub told_givens : (k : ℕ) (has : ShardState S P) → slice_get shards k ≡ Some has → told k ≡ givens has
    told_givens k has here =
        let low = slice_get_within shards k has here in
        let lock = get_there locks k (omega (arith, low, many, kept_many)) in
        givens_here (shard_frame frame_of) locks k lock.0 lock.1 ∙ ap (λ (f : ShardFrame S F). f.givens.items) (lock_frame k lock.0 has lock.1 here)

  -- whose histories are empty
  pub kept_empty : (k : ℕ) (one : KeptShardState S P) → slice_get kept k ≡ Some one → one.notes ≡ []
  kept_empty k one at =
      let low = slice_get_within kept k one at in
      let has = get_there shards k (omega (arith, low, kept_many)) in
      ap (λ (c : KeptShardState S P). c.notes) (are k has.0 one has.1 at)

-- the frame of the first of them
pub first_frame : {V N S F : Type 0} (kept_frame : V → ShardFrame S F) (setup : Setup) (f : F) (at : ℕ → List S) (locks : List (Ticketed V N (ShardFrame S F))) (some : 0 < length locks) → AreFramed kept_frame (frame_for setup f at) locks → (kept_frame (initial_value (first_of_some locks some))).states ≡ f
first_frame kept_frame setup f at [] some framed = absurd (omega (arith, some))
first_frame kept_frame setup f at (lock ∷ locks) some framed = ap (λ frame. frame.states) (framed 0 lock refl)

-- the same of chains
pub chains_framed : (setup : Setup) (chains : List CoreQueueState) (kept : List KeptChainState) → length kept ≡ length chains → ((k : ℕ) (queue : CoreQueueState) (one : KeptChainState) → slice_get chains k ≡ Some queue → slice_get kept k ≡ Some one → one ≡ record { has = queue; changes = [] }) → ((k : ℕ) (queue : CoreQueueState) → slice_get chains k ≡ Some queue → queue ≡ empty_chain setup)
    → {N : Type 0} (locks : List (Ticketed KeptChainState N ChainFrame)) → length locks ≡ length kept → ((k : ℕ) (lock : _) (value : KeptChainState) → slice_get locks k ≡ Some lock → slice_get kept k ≡ Some value → chain_frame (initial_value lock) ≡ chain_frame value)
    → AreFramed chain_frame (λ _. chain_frame_for setup) locks
chains_framed setup chains kept kept_many are empty locks many frames k lock at =
    let low = slice_get_within locks k lock at in
    let one = get_there kept k (omega (arith, low, many)) in
    let queue = get_there chains k (omega (arith, low, many, kept_many)) in
    frames k lock one.0 at one.1 ∙ ap chain_frame (are k queue.0 one.0 queue.1 one.1) ∙ ap numbers_of (empty k queue.0 queue.1)

-- whose histories are empty
pub chains_untouched : (chains : List CoreQueueState) (kept : List KeptChainState) → length kept ≡ length chains → ((k : ℕ) (queue : CoreQueueState) (one : KeptChainState) → slice_get chains k ≡ Some queue → slice_get kept k ≡ Some one → one ≡ record { has = queue; changes = [] }) → (k : ℕ) (one : KeptChainState) → slice_get kept k ≡ Some one → one.changes ≡ []
chains_untouched chains kept many are k one at =
    let low = slice_get_within kept k one at in
    let queue = get_there chains k (omega (arith, low, many)) in
    ap (λ (kept : KeptChainState). kept.changes) (are k queue.0 one queue.1 at)

-- what holds at each place holds of each element, one after another
pub all_from_places : {X : Type 0} (P : X → Type 0) (xs : List X) → ((i : ℕ) (x : X) → slice_get xs i ≡ Some x → P x) → AllByRecursion P xs
all_from_places P [] each = tt
all_from_places P (x ∷ xs) each = (each 0 x refl, all_from_places P xs (λ i y is. each (suc i) y is))

-- what holds at each place holds of each element
pub all_here : {A : Type 0} (Has : A → Type 0) (xs : List A) → ((k : ℕ) (x : A) → slice_get xs k ≡ Some x → Has x) → All Has xs
all_here Has xs each = All-from_recursion Has xs (all_from_places Has xs each)
