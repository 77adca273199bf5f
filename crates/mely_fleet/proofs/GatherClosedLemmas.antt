-- What locks gave back for all their passes may be gathered into a weave.
use Rattle.std.proofs.Common.{◌≡◌, ℕ, zero, suc, ◌<◌, ◌≤◌, List, [], ◌∷◌, Option, Some, None, length, map, get_or, refl, sym, ◌∙◌, ap, subst, arith}
use Rattle.std.specs.Prelude.{slice_get, option_map}
use Rattle.std.proofs.lemmas.List.{length-map, drop-map, take-map}
use Rattle.std.proofs.lemmas.Option.{slice_get-get_or, slice_get_within, get_or_from_slice_get, slice_get-map}
use Rattle.mely_note.specs.declared.note.Note.{Note}
use Rattle.mely_event.specs.declared.colour.Colour.{Colour}
use Rattle.mely_event.specs.declared.trail.Trail.{Ghosts as TrailWords}
use Rattle.mely_history.specs.declared.setup.Setup.{Setup}
use Rattle.mely_history.specs.Setup.{shape_of}
use Rattle.mely_history.specs.Entries.{entries_by}
use Rattle.mely_history.specs.Legal.{IsLegal, IsDrained}
use Rattle.mely_shard.specs.Shard.{ShardState, givens}
use Rattle.mely_note.specs.Notes.{entry_of, entries_of, noted_by, notes_by}
use Rattle.mely_note.proofs.NoteLemmas.{no_entries_by}
use Rattle.mely_core.specs.CoreQueue.{CoreQueueState}
use Rattle.mely_lock.specs.declared.ticketed.Ticketed.{Ticketed}
use Rattle.mely_lock.specs.declared.pass.Pass.{Pass}
use Rattle.mely_lock.specs.Seen.{notes_of, OthersSince}
use Rattle.mely_lock.specs.Words.{initial_value, front, IsPassOf, IsOutside}
use Rattle.mely_weave.specs.Gathering.{MayGatherShard, MayGatherChain}
use Rattle.mely_weave.specs.Side.{shard_of}
use Rattle.mely_kept.specs.declared.kept_shard.ShardFrame.{ShardFrame}
use Rattle.mely_fleet.specs.declared.passes.PassesOf.{PassesOf}
use Rattle.mely_kept_chain.specs.declared.kept_chain.ChainFrame.{ChainFrame}
use Rattle.mely_fleet.specs.Calls.{front_in, front_for}
use Rattle.mely_fleet.specs.Closed.{IsClosed, IsTakenOut, IsColumn, AreColumns, AreAllPasses, IsClosedOver}
use Rattle.mely_fleet.specs.Closing.{HasFinishedOf}
use Rattle.mely_fleet.specs.Fleets.{frame_for, chain_frame_for}
use Rattle.mely_kept_chain.specs.declared.chain_note.ChainNote.{ChainNote}
use Rattle.mely_kept.specs.Frames.{shard_frame}
use Rattle.mely_kept_chain.specs.Frames.{chain_frame, numbers_of}
use Rattle.mely_kept_chain.specs.KeptChain.{KeptChainState}
use Rattle.mely_kept.specs.KeptShard.{KeptShardState}
use Rattle.mely_fleet.specs.Rows.{ArePassesOf, HavePasses, fronts}
use Rattle.mely_history.specs.declared.entry.Entry.TheVariants.{Take}
use Rattle.mely_history.specs.Owing.{last_change}
use Rattle.mely_weave.proofs.Wholes.GatherLemmas.{get_there}
use Rattle.mely_fleet.proofs.OpeningLemmas.{all_here}
use Rattle.mely_fleet.proofs.ClosingLemmas.{rests_where_finished}
use Rattle.mely_fleet.proofs.FrontLemmas.{others_of_entries}
use Rattle.std.proofs.Common.{◌⊎◌, inl, inr, drop, take}
use Rattle.mely_history.specs.LeftOver.{HaveDrainedFronts, HasSeenMost, IsLeftOver}
use Rattle.mely_history.proofs.LeftOverLemmas.{left_over}
use Rattle.mely_fleet.specs.Closed.{AreDrainedWithin, IsLeftByOthers}
use Rattle.std.proofs.lemmas.Bool.{cases_lt, cases_eq}
use Rattle.std.proofs.Math.Seq.{drop-append_seam, take-append_seam}

-- what stands at one place of three lists
pub record AllThere {A B C : Type 0} (kept : List A) (locks : List B) (columns : List C) (k : ℕ) : Type 0 where
  pub value : A
  pub value_at : slice_get kept k ≡ Some value
  pub lock : B
  pub lock_at : slice_get locks k ≡ Some lock
  pub column : C
  pub column_at : slice_get columns k ≡ Some column

-- a place of a list is there in three that are as long
pub all_there : {A B C D : Type 0} (outs : List D) (kept : List A) (locks : List B) (columns : List C) → length outs ≡ length kept → length kept ≡ length locks → length columns ≡ length locks → (k : ℕ) (out : D) → slice_get outs k ≡ Some out → AllThere kept locks columns k
all_there outs kept locks columns taken closed handed k out at =
    let within = slice_get_within outs k out at in
    let value = get_there kept k (omega (arith, within, taken)) in
    let lock = get_there locks k (omega (arith, within, taken, closed)) in
    let column = get_there columns k (omega (arith, within, taken, closed, handed)) in
    record { value = value.0; value_at = value.1; lock = lock.0; lock_at = lock.1; column = column.0; column_at = column.1 }

-- what a pass of a row has seen
front_at : {V N F : Type 0} {g : _} (row : List (Pass V N F g)) (k : ℕ) (pass : Pass V N F g) → slice_get row k ≡ Some pass → get_or (fronts row) k [] ≡ front pass
front_at row k pass is = get_or_from_slice_get (fronts row) k (front pass) [] (slice_get-map (λ p. front p) row k ∙ ap (option_map (λ p. front p)) is)

module _ {S P F : Type 0} {g : _} (t : TrailWords S F) (setup : Setup) (frame : F) (told : ℕ → List S) (k : ℕ) (lock : Ticketed (KeptShardState S P) (Note S P) (ShardFrame S F)) (column : List (Pass (KeptShardState S P) (Note S P) (ShardFrame S F) g)) (kept : KeptShardState S P) (has : ShardState S P) where
  -- a shard that was closed over all its passes, where each core's pass has finished what it took
  pub shard_gathers : IsClosed (λ (v : KeptShardState S P). v.notes) noted_by (shard_frame t.frame_of) lock column kept → IsTakenOut t.frame_of kept has → shard_frame t.frame_of (initial_value lock) ≡ frame_for setup frame told k → (shape_of setup).cores ≤ lock.passes
      → ((j : ℕ) (pass : Pass (KeptShardState S P) (Note S P) (ShardFrame S F) g) → slice_get column j ≡ Some pass → pass.number < (shape_of setup).cores → (c : Colour) → shard_of setup c ≡ k → HasFinishedOf pass.number c (entries_of (front pass)))
      → MayGatherShard t setup frame k has
  shard_gathers closed out lock_frame enough finished =
      let frame_is : shard_frame t.frame_of kept ≡ frame_for setup frame told k = closed.framed ∙ lock_frame in
      let of_setup : has.setup ≡ setup = ap (λ (h : ShardState S P). h.setup) out.is ∙ ap (λ (f : ShardFrame S F). f.setup) frame_is in
      let numbered : has.shard ≡ k = ap (λ (h : ShardState S P). h.shard) out.is ∙ ap (λ (f : ShardFrame S F). f.shard) frame_is in
      record {
        of_setup = of_setup;
        numbered = numbered;
        at_rest = λ c own.
            let here : shard_of setup c ≡ k = ap (λ s. shard_of s c) (sym of_setup) ∙ own.here ∙ numbered in
            rests_where_finished setup has.history c (subst (λ s. IsLegal s has.history) of_setup out.legal)
            (λ core low.
            let some = closed.numbers core (omega (arith, low, enough)) in
            let pass : Pass (KeptShardState S P) (Note S P) (ShardFrame S F) g = some.1 in
            let there : slice_get column some.0 ≡ Some pass = slice_get-get_or column some.0 pass some.2 ∙ ap (λ p. Some p) some.3 in
            let noted : OthersSince noted_by pass.number (front pass) kept.notes = subst (λ (p : Pass (KeptShardState S P) (Note S P) (ShardFrame S F) g). OthersSince noted_by p.number (front p) kept.notes) some.3 (closed.fronts some.0 pass some.2) in
            let since = others_of_entries pass.number (front pass) kept.notes noted in
            let number_is : pass.number ≡ core = some.4 in (
              entries_of (front pass),
              record { later = since.0; goes_on = out.shows.entries ∙ since.1; of_others = subst (λ n. entries_by n since.0 ≡ []) number_is since.2 },
              subst (λ n. HasFinishedOf n c (entries_of (front pass))) number_is (finished some.0 pass there (subst (λ n. n < (shape_of setup).cores) (sym number_is) low) c here),
            ));
        framed = λ i given is. out.framed i given is ∙ ap (λ (f : ShardFrame S F). f.states) frame_is;
      }

  -- the states that it was given at first are those that its lock was told
  pub givens_kept : IsClosed (λ (v : KeptShardState S P). v.notes) noted_by (shard_frame t.frame_of) lock column kept → IsTakenOut t.frame_of kept has → shard_frame t.frame_of (initial_value lock) ≡ frame_for setup frame told k → givens has ≡ told k
  givens_kept closed out lock_frame = ap (λ (h : ShardState S P). givens h) out.is ∙ ap (λ (f : ShardFrame S F). f.givens.items) (closed.framed ∙ lock_frame)

-- a chain that was closed
pub chain_gathers : {g : _} (setup : Setup) (lock : Ticketed KeptChainState (ℕ × ChainNote) ChainFrame) (column : List (Pass KeptChainState (ℕ × ChainNote) ChainFrame g)) (kept : KeptChainState) (queue : CoreQueueState) → IsClosed (λ k. k.changes) (λ change. change.0) chain_frame lock column kept → queue ≡ kept.has → chain_frame (initial_value lock) ≡ chain_frame_for setup → MayGatherChain setup queue
chain_gathers setup lock column kept queue closed is lock_frame =
    let frame_is : numbers_of queue ≡ chain_frame_for setup = ap numbers_of is ∙ closed.framed ∙ lock_frame in
    record { colours = ap (λ (f : ChainFrame). f.colours) frame_is; cost = ap (λ (f : ChainFrame). f.cost) frame_is; pinned = ap (λ (f : ChainFrame). f.pinned) frame_is }

-- what stands at a place of a mapped list
pub from_map : {A B : Type 0} (f : A → B) (xs : List A) (n : ℕ) (y : B) → slice_get (map f xs) n ≡ Some y → (x : A) × (slice_get xs n ≡ Some x) × (f x ≡ y)
from_map f [] n y is = cc
from_map f (x ∷ xs) zero y is = (x, refl, cc)
from_map f (x ∷ xs) (suc n) y is = from_map f xs n y is

-- the row of an element of a column
pub row_of : {A : Type 0} (rows : List (List A)) (k : ℕ) (column : List A) → IsColumn rows k column → (j : ℕ) (x : A) → slice_get column j ≡ Some x → (row : List A) × (slice_get rows j ≡ Some row) × (slice_get row k ≡ Some x)
row_of rows k column is j x there =
    let within = slice_get_within column j x there in
    let many = is.many in
    let row = get_there rows j (omega (arith, within, many)) in
    (row.0, row.1, is.each j row.0 x row.1 there)

module _ {V N F : Type 0} {g : _} (frame_of : V → F) (locks : List (Ticketed V N F)) (rows : List (List (Pass V N F g))) (each : (n : ℕ) (row : List (Pass V N F g)) → slice_get rows n ≡ Some row → (m : ℕ) × ArePassesOf frame_of locks m row) where
  -- a column has all passes of its lock
  column_has_all : (k : ℕ) (lock : Ticketed V N F) (column : List (Pass V N F g)) → IsColumn rows k column → slice_get locks k ≡ Some lock → length rows ≡ lock.passes → AreAllPasses frame_of lock column
  column_has_all k lock column is at many = record {
    many = is.many ∙ many;
    each = all_here (λ (p : Pass V N F g). IsPassOf frame_of lock p × IsOutside p) column (λ j pass there.
        let row = row_of rows k column is j pass there in
        let own = (each j row.0 row.1).1.each k lock pass at row.2 in
        (own.of_lock, own.outside));
  }

-- a pass of a row whose caller has finished what it took
pub finished_at : {S P V F : Type 0} {g : _} (setup : Setup) (number : ℕ) (row : List (Pass V (Note S P) (ShardFrame S F) g)) (k : ℕ) (pass : Pass V (Note S P) (ShardFrame S F) g) → slice_get row k ≡ Some pass → pass.number ≡ number
    → ((c : Colour) (core count : ℕ) → last_change number c (entries_of (front_for setup (fronts row) c)) ≡ Some (Take c core count) → ◌≡◌ {A = Option Colour} None (Some c))
    → (c : Colour) → shard_of setup c ≡ k → HasFinishedOf pass.number c (entries_of (front pass))
finished_at setup number row k pass is number_is finished c here core count taken =
    let seen : get_or (fronts row) (shard_of setup c) [] ≡ front pass = ap (λ i. get_or (fronts row) i []) here ∙ front_at row k pass is in
    let by_number : last_change number c (entries_of (front pass)) ≡ Some (Take c core count) = ap (λ n. last_change n c (entries_of (front pass))) (sym number_is) ∙ taken in
    let wrong : ◌≡◌ {A = Option Colour} None (Some c) = finished c core count (ap (λ h. last_change number c (entries_of h)) seen ∙ by_number) in
    cc

module _ {V N F O C : Type 0} {g : _} (frame_of : V → F) (items : C → List (Pass V N F g)) (row : O → List (Pass V N F g)) (number : O → ℕ) (locks : List (Ticketed V N F)) (owns : List O) (columns : List C) (passes : ℕ)
    (each : (n : ℕ) (own : O) → slice_get owns n ≡ Some own → ArePassesOf frame_of locks (number own) (row own)) (are : AreColumns items (map row owns) columns) where
  pub column_at : (k : ℕ) (column : C) → slice_get columns k ≡ Some column → IsColumn (map row owns) k (items column)
  column_at k column there = subst (λ l. IsColumn (map row owns) k (items l)) (get_or_from_slice_get columns k column column there) (are k column (slice_get_within columns k column there))

  -- each column has all passes of its lock
  pub columns_have_all : length owns ≡ passes → HavePasses passes locks → (k : ℕ) (lock : Ticketed V N F) (column : C) → slice_get locks k ≡ Some lock → slice_get columns k ≡ Some column → AreAllPasses frame_of lock (items column)
  columns_have_all many dealt k lock column at there =
      column_has_all frame_of locks (map row owns)
      (λ n r is. let own = from_map row owns n r is in (number own.0, subst (λ xs. ArePassesOf frame_of locks (number own.0) xs) own.2 (each n own.0 own.1)))
      k lock (items column) (column_at k column there) at (length-map owns row ∙ many ∙ sym (dealt k lock at))

  -- whose pass an element of a column is
  pub owner_of_pass : (k : ℕ) (lock : Ticketed V N F) (column : C) → slice_get locks k ≡ Some lock → slice_get columns k ≡ Some column → (j : ℕ) (pass : Pass V N F g) → slice_get (items column) j ≡ Some pass
      → (own : O) × (slice_get owns j ≡ Some own) × (slice_get (row own) k ≡ Some pass) × (pass.number ≡ number own)
  owner_of_pass k lock column at there j pass is =
      let found = row_of (map row owns) k (items column) (column_at k column there) j pass is in
      let own = from_map row owns j found.0 found.1 in
      let here : slice_get (row own.0) k ≡ Some pass = ap (λ xs. slice_get xs k) own.2 ∙ found.2 in
      (own.0, own.1, here, ((each j own.0 own.1).each k lock pass at here).numbered)

module _ {S P F : Type 0} {g : _} (frame_of : KeptShardState S P → ShardFrame S F) (setup : Setup) {C : Type 0} (items : C → List (Pass (KeptShardState S P) (Note S P) (ShardFrame S F) g)) (locks : List (Ticketed (KeptShardState S P) (Note S P) (ShardFrame S F))) (owns : List (PassesOf (KeptShardState S P) (Note S P) (ShardFrame S F) g)) (columns : List C) (count : ℕ)
    (each : (n : ℕ) (own : PassesOf (KeptShardState S P) (Note S P) (ShardFrame S F) g) → slice_get owns n ≡ Some own → ArePassesOf frame_of locks own.number own.shards.items) (are : AreColumns items (map (λ (own : PassesOf (KeptShardState S P) (Note S P) (ShardFrame S F) g). own.shards.items) owns) columns) where
  -- what a closed shard's notes are to the callers
  pub closed_over : (k : ℕ) (lock : Ticketed (KeptShardState S P) (Note S P) (ShardFrame S F)) (column : C) (kept : KeptShardState S P) (notes : List (Note S P)) → slice_get locks k ≡ Some lock → slice_get columns k ≡ Some column → lock.passes ≡ count → notes ≡ kept.notes
      → IsClosed (λ (v : KeptShardState S P). v.notes) noted_by frame_of lock (items column) kept → IsClosedOver count k owns notes
  closed_over k lock column kept notes at there many same closed =
      let shards_of : PassesOf (KeptShardState S P) (Note S P) (ShardFrame S F) g → List (Pass (KeptShardState S P) (Note S P) (ShardFrame S F) g) = λ own. own.shards.items in
      let is = column_at frame_of items shards_of (λ own. own.number) locks owns columns count each are k column there in
      let long = is.many in
      let rows_many = length-map owns shards_of in
      record {
        seen = λ n own here.
            let low = slice_get_within owns n own here in
            let pass = get_there (items column) n (omega (arith, low, long, rows_many)) in
            let place : slice_get own.shards.items k ≡ Some pass.0 = is.each n own.shards.items pass.0 (slice_get-map shards_of owns n ∙ ap (option_map shards_of) here) pass.1 in
            let read : get_or (items column) n pass.0 ≡ pass.0 = get_or_from_slice_get (items column) n pass.0 pass.0 pass.1 in
            let since : OthersSince noted_by pass.0.number (front pass.0) kept.notes = subst (λ (p : Pass (KeptShardState S P) (Note S P) (ShardFrame S F) g). OthersSince noted_by p.number (front p) kept.notes) read (closed.fronts n pass.0 (slice_get_within (items column) n pass.0 pass.1)) in
            let numbered : pass.0.number ≡ own.number = ((each n own here).each k lock pass.0 at place).numbered in
            subst (λ h. OthersSince noted_by own.number (get_or (fronts own.shards.items) k []) h) (sym same)
            (subst (λ f. OthersSince noted_by own.number f kept.notes) (sym (front_at own.shards.items k pass.0 place))
            (subst (λ m. OthersSince noted_by m (front pass.0) kept.notes) numbered since));
        numbers = λ m low.
            let some = closed.numbers m (subst (λ p. m < p) (sym many) low) in
            let own = owner_of_pass frame_of items shards_of (λ own. own.number) locks owns columns count each are k lock column at there some.0 some.1 (slice_get-get_or (items column) some.0 some.1 some.2 ∙ ap (λ p. Some p) some.3) in
            (some.0, own.0, own.1, sym own.3 ∙ some.4);
        strangers = λ m high. ap (λ h. notes_of noted_by m h) same ∙ closed.strangers m (subst (λ p. p ≤ m) (sym many) high);
      }

module _ {S P V F : Type 0} {g : _} (setup : Setup) (count k : ℕ) (passes : List (PassesOf V (Note S P) (ShardFrame S F) g)) (notes : List (Note S P)) (enough : (shape_of setup).cores ≤ count) (closed : IsClosedOver count k passes notes) where
  abbrev seen_of : PassesOf V (Note S P) (ShardFrame S F) g → List (Note S P)
  seen_of own = front_in (fronts own.shards.items) k

  -- how much passes of a number had seen
  record HasSeen (core : ℕ) : Type 0 where
    seen : ℕ
    place : ℕ
    own : PassesOf V (Note S P) (ShardFrame S F) g
    there : slice_get passes place ≡ Some own
    numbered : own.number ≡ core
    is : seen ≡ length (seen_of own)

  module _ (n : ℕ) (own : PassesOf V (Note S P) (ShardFrame S F) g) (there : slice_get passes n ≡ Some own) where
    -- of the number of these passes it is what these had seen, of another one
    -- what some of that number had
    abbrev seen_by : (core : ℕ) → (core ≡ own.number) ⊎ (core ≡ own.number → ⊥) → (core < count) ⊎ (count ≤ core) → ℕ
    seen_by core (inl same) low = length (seen_of own)
    seen_by core (inr other) (inl low) = length (seen_of (closed.numbers core low).1)
    seen_by core (inr other) (inr high) = 0

    abbrev seen_at : (core : ℕ) → ℕ
    seen_at core = seen_by core (cases_eq core own.number) (cases_lt core count)

    abbrev has_seen_by : (core : ℕ) (is : (core ≡ own.number) ⊎ (core ≡ own.number → ⊥)) (low : (core < count) ⊎ (count ≤ core)) → core < count → HasSeen core
    has_seen_by core (inl same) low within = record { seen = length (seen_of own); place = n; own = own; there = there; numbered = sym same; is = refl }
    has_seen_by core (inr other) (inl low) within = let found = closed.numbers core low in record { seen = length (seen_of found.1); place = found.0; own = found.1; there = found.2; numbered = found.3; is = refl }
    has_seen_by core (inr other) (inr high) within = absurd (omega (arith, high, within))

    same_seen : (core : ℕ) (is : (core ≡ own.number) ⊎ (core ≡ own.number → ⊥)) (low : (core < count) ⊎ (count ≤ core)) (within : core < count) → (has_seen_by core is low within).seen ≡ seen_by core is low
    same_seen core (inl same) low within = refl
    same_seen core (inr other) (inl low) within = refl
    same_seen core (inr other) (inr high) within = absurd (omega (arith, high, within))

    own_seen : (is : (own.number ≡ own.number) ⊎ (own.number ≡ own.number → ⊥)) (low : (own.number < count) ⊎ (count ≤ own.number)) → seen_by own.number is low ≡ length (seen_of own)
    own_seen (inl same) low = refl
    own_seen (inr other) low = absurd (other refl)

    has_seen : (core : ℕ) → core < count → (found : HasSeen core) × (found.seen ≡ seen_at core)
    has_seen core within = (has_seen_by core (cases_eq core own.number) (cases_lt core count) within, same_seen core (cases_eq core own.number) (cases_lt core count) within)

    -- the fronts that are drained are first parts of the history, behind
    -- which the core made nothing
    fronts_drained : AreDrainedWithin setup k passes (seen_of own) → HaveDrainedFronts setup (entries_of notes) seen_at
    fronts_drained drained = record {
      own = λ core low.
          let it = has_seen core (omega (arith, low, enough)) in
          let since = closed.seen it.0.place it.0.own it.0.there in
          let behind : drop (seen_at core) (entries_of notes) ≡ entries_of since.0 = ap (λ m. drop m (entries_of notes)) (sym it.1 ∙ it.0.is) ∙ drop-map (λ note. entry_of note) (length (seen_of it.0.own)) notes ∙ ap (λ ns. entries_of ns) (ap (drop (length (seen_of it.0.own))) since.1 ∙ drop-append_seam (seen_of it.0.own) since.0) in
          subst (λ es. entries_by core es ≡ []) (sym behind) (no_entries_by core since.0 (subst (λ m. notes_by m since.0 ≡ []) it.0.numbered since.2));
      drained = λ core low.
          let it = has_seen core (omega (arith, low, enough)) in
          let since = closed.seen it.0.place it.0.own it.0.there in
          let front : take (seen_at core) (entries_of notes) ≡ entries_of (seen_of it.0.own) = ap (λ m. take m (entries_of notes)) (sym it.1 ∙ it.0.is) ∙ take-map (λ note. entry_of note) (length (seen_of it.0.own)) notes ∙ ap (λ ns. entries_of ns) (ap (take (length (seen_of it.0.own))) since.1 ∙ take-append_seam (seen_of it.0.own) since.0) in
          subst IsDrained (sym front) (drained.drained it.0.place it.0.own it.0.there (subst (λ m. m < (shape_of setup).cores) (sym it.0.numbered) low));
    }

    seen_most : own.number < (shape_of setup).cores → AreDrainedWithin setup k passes (seen_of own) → HasSeenMost setup seen_at own.number
    seen_most low drained = record {
      there = low;
      most = λ other within.
          let it = has_seen other (omega (arith, within, enough)) in
          let least = drained.within it.0.place it.0.own it.0.there (subst (λ m. m < (shape_of setup).cores) (sym it.0.numbered) within) in
          let here = it.0.is in
          let same = it.1 in
          let most : seen_at own.number ≡ length (seen_of own) = own_seen (cases_eq own.number own.number) (cases_lt own.number count) in
          omega (arith, least, here, same, most);
    }

  -- where the fronts of all cores are drained, what waits was registered by others
  -- behind the longest of them
  pub left_by_others : IsLegal setup (entries_of notes) → IsLeftByOthers setup k passes (entries_of notes)
  left_by_others legal n own there low drained =
      subst (λ place. IsLeftOver setup (entries_of notes) place) (own_seen n own there (cases_eq own.number own.number) (cases_lt own.number count))
      (left_over setup (entries_of notes) (seen_at n own there) own.number legal (fronts_drained n own there drained) (seen_most n own there low drained))
