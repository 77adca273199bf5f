use Rattle.std.proofs.Common.{◌≡◌, ◌≤◌, ◌<◌, ℕ, List, [], Some, map, get_or, sym, ◌∙◌, ap, subst, arith}
use Rattle.std.specs.Prelude.{slice_get, option_map}
use Rattle.std.proofs.lemmas.Option.{slice_get-map, get_or_from_slice_get}
use Rattle.mely_note.specs.declared.note.Note.{Note}
use Rattle.mely_note.specs.Notes.{Rise}
use Rattle.mely_shard.specs.Shard.{givens}
use Rattle.mely_note.specs.ShowsNotes.{ShowsNotes}
use Rattle.mely_history.specs.Setup.{shape_of}
use Rattle.mely_history.specs.Legal.{IsLegal}
use Rattle.mely_weave.specs.Gathering.{MayGather, MayGatherShard, MayGatherChain}
use Rattle.mely_weave.proofs.Wholes.GatherLemmas.{get_there}
use Rattle.mely_fleet.specs.Closed.{IsClosedShard, IsLeftByOthers}
use Rattle.mely_fleet.specs.Fleets.{frame_in, givens_in, frame_for, chain_frame_for}
use Rattle.mely_fleet.specs.Rows.{AreFramed}
use Rattle.mely_kept.specs.Frames.{shard_frame}
use Rattle.mely_kept_chain.specs.Frames.{chain_frame}
use Rattle.mely_fleet.proofs.GatherClosedLemmas.{AllThere, all_there, columns_have_all, owner_of_pass, finished_at, shard_gathers, givens_kept, chain_gathers, closed_over, left_by_others}
use Rattle.mely_fleet.proofs.close.FleetOf+KeptShard+S+P.close.Goals as goal
use Rattle.mely_fleet.proofs.close.FleetOf+KeptShard+S+P.close.Goals.{After-chains_out-chains}

pub hand_in_all-requires-clause-shards : goal.hand_in_all-requires-clause-shards
hand_in_all-requires-clause-shards g c = λ n own there. (c.requires.each n own there).of_shards.many ∙ c.args.self.a_lock_for_each_shard ∙ ap (λ s. (shape_of s).shards) (sym c.requires.of_setup) ∙ sym c.args.room.column_for_each_shard

pub hand_in_all-requires-clause-chains : goal.hand_in_all-requires-clause-chains
hand_in_all-requires-clause-chains g c = λ n own there. (c.requires.each n own there).of_chains.many ∙ c.args.self.a_lock_for_each_core ∙ ap (λ s. (shape_of s).cores) (sym c.requires.of_setup) ∙ sym c.args.room.column_for_each_core

pub close_all-kept_shards-requires-clause-all : goal.close_all-kept_shards-requires-clause-all
close_all-kept_shards-requires-clause-all g c =
    columns_have_all (shard_frame g.S.Trail.frame_of) (λ list. list.items) (λ own. own.shards.items) (λ own. own.number) c.args.self.shards.items c.args.passes.items c.hand_in_all.new.shard_columns.items c.args.self.passes
    (λ n own there. (c.requires.each n own there).of_shards) c.hand_in_all.ensures.shard_columns c.requires.all c.args.self.shards_dealt

pub close_all-kept_chains-requires-clause-all : goal.close_all-kept_chains-requires-clause-all
close_all-kept_chains-requires-clause-all g c =
    columns_have_all chain_frame (λ list. list.items) (λ own. own.chains.items) (λ own. own.number) c.args.self.chains.items c.args.passes.items c.hand_in_all.new.chain_columns.items c.args.self.passes
    (λ n own there. (c.requires.each n own there).of_chains) c.hand_in_all.ensures.chain_columns c.requires.all c.args.self.chains_dealt

-- what each lock first had has the frame of its place, as the passes of any caller say
locks_framed : (g : _) (c : After-chains_out-chains g) → AreFramed (shard_frame g.S.Trail.frame_of) (frame_for c.args.self.setup (frame_in (shard_frame g.S.Trail.frame_of) c.args.self) (givens_in (shard_frame g.S.Trail.frame_of) c.args.self)) c.args.self.shards.items × AreFramed chain_frame (λ _. chain_frame_for c.args.self.setup) c.args.self.chains.items
locks_framed g c =
    let some_core : 1 ≤ (shape_of c.args.self.setup).cores = c.args.self.setup.cores_in.0 in
    let all = c.requires.all in
    let enough = c.args.self.enough_passes in
    let first = get_there c.args.passes.items 0 (omega (arith, some_core, all, enough)) in
    let are = c.requires.each 0 first.0 first.1 in
    (are.shards_framed, are.chains_framed)

-- at the place of a shard stand what it was taken out of, its lock and the lock's passes
shard_there : (g : _) (c : After-chains_out-chains g) (k : ℕ) (has : _) → slice_get c.shards_out-shards.result.items k ≡ Some has → AllThere c.close_all-kept_shards.result.items c.args.self.shards.items c.hand_in_all.new.shard_columns.items k
shard_there g c =
    all_there c.shards_out-shards.result.items c.close_all-kept_shards.result.items c.args.self.shards.items c.hand_in_all.new.shard_columns.items c.shards_out-shards.ensures.many c.close_all-kept_shards.ensures.many
    (c.hand_in_all.ensures.many.0 ∙ c.args.room.column_for_each_shard ∙ ap (λ s. (shape_of s).shards) c.requires.of_setup ∙ sym c.args.self.a_lock_for_each_shard)

-- and of a chain
chain_there : (g : _) (c : After-chains_out-chains g) (k : ℕ) (queue : _) → slice_get c.chains_out-chains.result.items k ≡ Some queue → AllThere c.close_all-kept_chains.result.items c.args.self.chains.items c.hand_in_all.new.chain_columns.items k
chain_there g c =
    all_there c.chains_out-chains.result.items c.close_all-kept_chains.result.items c.args.self.chains.items c.hand_in_all.new.chain_columns.items c.chains_out-chains.ensures.many c.close_all-kept_chains.ensures.many
    (c.hand_in_all.ensures.many.1 ∙ c.args.room.column_for_each_core ∙ ap (λ s. (shape_of s).cores) c.requires.of_setup ∙ sym c.args.self.a_lock_for_each_core)

-- each shard that came out may be gathered
shards_gather : (g : _) (c : After-chains_out-chains g) (k : ℕ) (has : _) → slice_get c.shards_out-shards.result.items k ≡ Some has → MayGatherShard g.S.Trail c.args.self.setup (frame_in (shard_frame g.S.Trail.frame_of) c.args.self) k has
shards_gather g c k has at =
    let setup = c.args.self.setup in
    let here = shard_there g c k has at in
    shard_gathers g.S.Trail setup (frame_in (shard_frame g.S.Trail.frame_of) c.args.self) (givens_in (shard_frame g.S.Trail.frame_of) c.args.self) k here.lock here.column.items here.value has
    (c.close_all-kept_shards.ensures.each k here.lock here.value here.lock_at here.value_at here.column here.column_at)
    (c.shards_out-shards.ensures.each k here.value has here.value_at at)
    ((locks_framed g c).0 k here.lock here.lock_at)
    (subst (λ n. (shape_of setup).cores ≤ n) (sym (c.args.self.shards_dealt k here.lock here.lock_at)) c.args.self.enough_passes)
    (λ j pass there low.
    let own = owner_of_pass (shard_frame g.S.Trail.frame_of) (λ list. list.items) (λ own. own.shards.items) (λ own. own.number) c.args.self.shards.items c.args.passes.items c.hand_in_all.new.shard_columns.items c.args.self.passes
    (λ n own there. (c.requires.each n own there).of_shards) c.hand_in_all.ensures.shard_columns k here.lock here.column here.lock_at here.column_at j pass there in
    finished_at setup own.0.number own.0.shards.items k pass own.2 own.3 (c.requires.finished j own.0 own.1 (subst (λ n. n < (shape_of setup).cores) own.3 low)))

-- the states that it was given at first are the fleet's
shards_given : (g : _) (c : After-chains_out-chains g) (k : ℕ) (has : _) → slice_get c.shards_out-shards.result.items k ≡ Some has → givens has ≡ givens_in (shard_frame g.S.Trail.frame_of) c.args.self k
shards_given g c k has at =
    let here = shard_there g c k has at in
    givens_kept g.S.Trail c.args.self.setup (frame_in (shard_frame g.S.Trail.frame_of) c.args.self) (givens_in (shard_frame g.S.Trail.frame_of) c.args.self) k here.lock here.column.items here.value has
    (c.close_all-kept_shards.ensures.each k here.lock here.value here.lock_at here.value_at here.column here.column_at)
    (c.shards_out-shards.ensures.each k here.value has here.value_at at)
    ((locks_framed g c).0 k here.lock here.lock_at)

-- the notes that its lock kept
notes_at : (g : _) (c : After-chains_out-chains g) (k : ℕ) → List (Note g.row.S.Denot g.row.P.Denot)
notes_at g c k = get_or (map (λ kept. kept.notes) c.close_all-kept_shards.result.items) k []

notes_there : (g : _) (c : After-chains_out-chains g) (k : ℕ) (kept : _) → slice_get c.close_all-kept_shards.result.items k ≡ Some kept → notes_at g c k ≡ kept.notes
unfolding notes_at
notes_there g c k kept at =
    get_or_from_slice_get (map (λ v. v.notes) c.close_all-kept_shards.result.items) k kept.notes [] (slice_get-map (λ v. v.notes) c.close_all-kept_shards.result.items k ∙ ap (option_map (λ v. v.notes)) at)

-- they show the shard, and are those of one that was closed over the passes
shards_closed : (g : _) (c : After-chains_out-chains g) (k : ℕ) (has : _) → slice_get c.shards_out-shards.result.items k ≡ Some has → IsClosedShard c.args.self.passes k c.args.passes.items has (notes_at g c k)
shards_closed g c k has at =
    let here = shard_there g c k has at in
    let is = notes_there g c k here.value here.value_at in
    let out = c.shards_out-shards.ensures.each k here.value has here.value_at at in
    record {
      shows = subst (ShowsNotes has) (sym is) out.shows;
      rise = subst Rise (sym is) out.rise;
      over = closed_over (shard_frame g.S.Trail.frame_of) c.args.self.setup (λ list. list.items) c.args.self.shards.items c.args.passes.items c.hand_in_all.new.shard_columns.items c.args.self.passes
          (λ n own there. (c.requires.each n own there).of_shards) c.hand_in_all.ensures.shard_columns k here.lock here.column here.value (notes_at g c k) here.lock_at here.column_at (c.args.self.shards_dealt k here.lock here.lock_at)
          is (c.close_all-kept_shards.ensures.each k here.lock here.value here.lock_at here.value_at here.column here.column_at);
    }

-- what waits in it was registered by others
shards_left : (g : _) (c : After-chains_out-chains g) (k : ℕ) (has : _) → slice_get c.shards_out-shards.result.items k ≡ Some has → IsLeftByOthers c.args.self.setup k c.args.passes.items has.history
shards_left g c k has at =
    let here = shard_there g c k has at in
    let closed = shards_closed g c k has at in
    let legal = subst (λ s. IsLegal s has.history) (shards_gather g c k has at).of_setup (c.shards_out-shards.ensures.each k here.value has here.value_at at).legal in
    subst (IsLeftByOthers c.args.self.setup k c.args.passes.items) (sym closed.shows.entries)
    (left_by_others c.args.self.setup c.args.self.passes k c.args.passes.items (notes_at g c k) c.args.self.enough_passes closed.over (subst (IsLegal c.args.self.setup) closed.shows.entries legal))

-- each chain may be gathered
chains_gather : (g : _) (c : After-chains_out-chains g) (k : ℕ) (queue : _) → slice_get c.chains_out-chains.result.items k ≡ Some queue → MayGatherChain c.args.self.setup queue
chains_gather g c k queue at =
    let here = chain_there g c k queue at in
    chain_gathers c.args.self.setup here.lock here.column.items here.value queue
    (c.close_all-kept_chains.ensures.each k here.lock here.value here.lock_at here.value_at here.column here.column_at)
    (c.chains_out-chains.ensures.each k here.value queue here.value_at at)
    ((locks_framed g c).1 k here.lock here.lock_at)

pub gather-requires : goal.gather-requires
gather-requires g c = subst (λ s. MayGather g.S.Trail g.S.Fits.fits_under s c.shards_out-shards.result.items c.chains_out-chains.result.items c.args.workers.items) (sym (c.args.room.for_weave ∙ c.requires.of_setup)) (record {
  frame = frame_in (shard_frame g.S.Trail.frame_of) c.args.self;
  shard_count = c.shards_out-shards.ensures.many ∙ c.close_all-kept_shards.ensures.many ∙ c.args.self.a_lock_for_each_shard;
  shard = shards_gather g c;
  chain_count = c.chains_out-chains.ensures.many ∙ c.close_all-kept_chains.ensures.many ∙ c.args.self.a_lock_for_each_core;
  chain = chains_gather g c;
  worker_count = c.requires.worker_count;
  worker = c.requires.workers;
})

pub returns-clause-closed : goal.returns-clause-closed
returns-clause-closed g c =
    let before = (goal.at.returns-clause-closed g c).After-chains_out-chains in
    let out = λ (k : ℕ) (has : _) (there : slice_get c.gather.result.shards k ≡ Some has). ap (λ xs. slice_get xs k) (sym c.gather.ensures.shards) ∙ there in
    record {
      setup = c.gather.ensures.setup ∙ c.args.room.for_weave ∙ c.requires.of_setup;
      notes = notes_at g before;
      givens = λ k has there. shards_given g before k has (out k has there);
      histories = λ k has there. shards_closed g before k has (out k has there);
      left = λ k has there. shards_left g before k has (out k has there);
      shards = λ k has there. shards_gather g before k has (out k has there);
      chains = c.gather.ensures.chains;
      stands = c.gather.ensures.stands;
    }
