use Rattle.std.proofs.Common.{◌≡◌, ℕ, Some, length, sym, ◌∙◌, ap, subst, arith}
use Rattle.std.specs.Prelude.{slice_get}
use Rattle.mely_history.specs.declared.setup.Setup.{Setup}
use Rattle.mely_history.specs.Setup.{shape_of}
use Rattle.mely_history.specs.Legal.{IsLegal}
use Rattle.mely_shard.specs.Shard.{ShardState, IsConsistent}
use Rattle.mely_weave.specs.Gathering.{MayGather, AreChainedAnew}
use Rattle.mely_weave.proofs.Marks.ChainingLemmas.{whole}
use Rattle.mely_weave.proofs.Wholes.GatherLemmas.{gathered_parts, gathered_well, given_framed}
use Rattle.mely_weave.proofs.weave.Weave.gather.Goals as goal
use Rattle.mely_weave.proofs.weave.Weave.gather.Goals.{After-deref_mut-2, After-chain_ready}

-- the parts may be gathered
may : (g : _) (c : After-chain_ready g) → MayGather g.S.Trail g.S.Fits.fits_under c.room.inside.setup c.args.shards.items c.args.chains.items c.args.workers.items
may g c = rw c.room.view_is c.requires

-- each shard keeps what its type keeps
kept : (g : _) (c : After-chain_ready g) (number : ℕ) (has : ShardState g.row.S.Denot g.row.P.Denot) → slice_get c.args.shards.items number ≡ Some has → IsConsistent g.S.Trail g.S.Fits.fits_under has
kept g c number has at = c.are_kept.ensures number has (ap (λ xs. slice_get xs number) c.deref.ensures.value ∙ at)

-- the marks of all colours that are ready are chained, and no others
chained : (g : _) (c : After-chain_ready g) → AreChainedAnew c.room.inside.setup c.args.shards.items c.chain_ready.new.chains
chained g c = rw (← c.deref-3.ensures.value) c.chain_ready.ensures.chained

-- the state that is kept has the frame of all
framed : (g : _) (c : After-chain_ready g) → g.S.Trail.frame_of c.first_state-given.result.value ≡ (may g c).frame
framed g c = given_framed g.S.Trail g.S.Fits.fits_under c.room.inside.setup c.args.shards.items c.args.chains.items c.args.workers.items (may g c) (kept g c) c.first_state-given.result.value (λ has lane is. c.first_state-given.ensures has lane (ap (λ xs. slice_get xs 0) c.deref-2.ensures.value ∙ is))

-- there are as many chains as before
as_many : (g : _) (c : After-chain_ready g) → length c.chain_ready.new.chains ≡ c.args.chains.len
as_many g c =
    let before : length c.empty_all.new.chains ≡ c.args.chains.len = c.empty_all.auto.chains ∙ c.deref_mut.ensures.len in
    c.chain_ready.auto.chains ∙ ap length (c.deref_mut-2.ensures.value ∙ whole c.args.chains.len c.empty_all.new.chains _ before) ∙ before

pub first_state-given-requires-clause-kept : goal.first_state-given-requires-clause-kept
first_state-given-requires-clause-kept g c = λ has at. c.are_kept.ensures 0 has (ap (λ xs. slice_get xs 0) (c.deref.ensures.value ∙ sym c.deref-2.ensures.value) ∙ at)

pub first_state-given-requires-clause-at_rest : goal.first_state-given-requires-clause-at_rest
first_state-given-requires-clause-at_rest g c = λ has at.
    let is = c.requires.shard 0 has (ap (λ xs. slice_get xs 0) (sym c.deref-2.ensures.value) ∙ at) in
    record { first = is.numbered; at_rest = is.at_rest }

pub empty_all-requires : goal.empty_all-requires
empty_all-requires g c = rw c.room.view_is (record { own = λ core queue at. c.requires.chain core queue (ap (λ xs. slice_get xs core) (sym c.deref_mut.ensures.value) ∙ at) })

pub chain_ready-requires-clause-own : goal.chain_ready-requires-clause-own
chain_ready-requires-clause-own g c = rw c.room.view_is (λ number has at.
    let there = ap (λ xs. slice_get xs number) (sym c.deref-3.ensures.value) ∙ at in
    let is = c.requires.shard number has there in
    record {
      of_setup = is.of_setup;
      numbered = is.numbered;
      legal = subst (λ (s : Setup). IsLegal s has.history) is.of_setup (c.are_kept.ensures number has (ap (λ xs. slice_get xs number) c.deref.ensures.value ∙ there)).legal;
    })

-- emptying leaves as many chains
still : (g : _) (c : After-deref_mut-2 g) → length c.empty_all.new.chains ≡ c.args.chains.len
still g c = c.empty_all.auto.chains ∙ c.deref_mut.ensures.len

-- the chains, as they were emptied
emptied : (g : _) (c : After-deref_mut-2 g) → c.deref_mut-2.result.now ≡ c.empty_all.new.chains
emptied g c = c.deref_mut-2.ensures.value ∙ whole c.args.chains.len c.empty_all.new.chains _ (still g c)

pub chain_ready-requires-clause-empty : goal.chain_ready-requires-clause-empty
chain_ready-requires-clause-empty g c =
    let at = (goal.at.chain_ready-requires-clause-empty g c).After-deref_mut-2 in
    let is = emptied g at in
    let many = still g at in
    let own = ap (λ (s : Setup). (shape_of s).cores) c.room.view_is in
    let count = c.requires.chain_count in
    let ok = c.args.chains.ok.0 in
    record {
      many = ap length is ∙ omega (arith, many, own, count, ok);
      each = λ core queue there. c.empty_all.ensures.empty core queue (ap (λ xs. slice_get xs core) (sym is) ∙ there);
    }

pub chain_ready-requires-clause-stand : goal.chain_ready-requires-clause-stand
chain_ready-requires-clause-stand g c =
    let is = emptied g (goal.at.chain_ready-requires-clause-stand g c).After-deref_mut-2 in
    λ core queue at. c.empty_all.ensures.stand core queue (ap (λ xs. slice_get xs core) (sym is) ∙ at)

pub invariant_of-result : goal.invariant_of-result
invariant_of-result g c =
    let at = (goal.at.invariant_of-result g c).After-chain_ready in
    rw (whole c.args.chains.len c.chain_ready.new.chains _ (as_many g at)) (gathered_parts g.S.Trail g.S.Fits.fits_under c.room.inside.setup c.args.shards.items c.args.chains.items c.args.workers.items (may g at) (kept g at) c.first_state-given.result.value c.chain_ready.new.chains (framed g at) (chained g at) c.chain_ready.ensures.stand)

pub invariant_of-result-2 : goal.invariant_of-result-2
invariant_of-result-2 g c =
    let at = (goal.at.invariant_of-result-2 g c).After-chain_ready in
    (rw (whole c.args.chains.len c.chain_ready.new.chains _ (as_many g at)) (gathered_well g.S.Trail g.S.Fits.fits_under c.room.inside.setup c.args.shards.items c.args.chains.items c.args.workers.items (may g at) (kept g at) c.first_state-given.result.value c.chain_ready.new.chains (framed g at) (chained g at) c.chain_ready.ensures.stand), sym c.room.view_is)

pub returns-clause-chains : goal.returns-clause-chains
returns-clause-chains g c =
    let at = (goal.at.returns-clause-chains g c).After-chain_ready in
    rw (whole c.args.chains.len c.chain_ready.new.chains _ (as_many g at)) (chained g at)

pub returns-clause-stands : goal.returns-clause-stands
returns-clause-stands g c =
    let at = (goal.at.returns-clause-stands g c).After-chain_ready in
    rw (whole c.args.chains.len c.chain_ready.new.chains _ (as_many g at)) (gathered_well g.S.Trail g.S.Fits.fits_under c.room.inside.setup c.args.shards.items c.args.chains.items c.args.workers.items (may g at) (kept g at) c.first_state-given.result.value c.chain_ready.new.chains (framed g at) (chained g at) c.chain_ready.ensures.stand)
