use Rattle.std.proofs.Common.{◌≡◌, ◌≤◌, ◌∙◌, [], subst, sym, arith}
use Rattle.mely_history.specs.declared.setup.Setup.{Setup}
use Rattle.mely_history.specs.Setup.{colours_of, shape_of}
use Rattle.mely_shard.specs.Shard.{IsInitialShard, givens}
use Rattle.mely_weave.specs.Dealing.{AreDealt, AtEach}
use Rattle.mely_weave.specs.Making.{AreInitial}
use Rattle.mely_weave.proofs.Wholes.GatherLemmas.{get_there}
use Rattle.mely_kept.specs.Frames.{HaveFrame, shard_frame}
use Rattle.mely_fleet.specs.Fleets.{frame_for}
use Rattle.mely_fleet.specs.Opening.{givens_behind}
use Rattle.mely_fleet.specs.Rows.{AreFramed}
use Rattle.mely_fleet.proofs.OpeningLemmas.{shard_framed, shard_is_own, shard_untouched, states_given, shards_framed, told_givens, kept_empty, all_here}
use Rattle.mely_fleet.proofs.opening.lock_shards.Goals as goal
use Rattle.mely_fleet.proofs.opening.lock_shards.Goals.{After-fill-shards}

pub fill-shards-requires : goal.fill-shards-requires
fill-shards-requires g c = subst (λ (s : Setup). AreInitial g.S.Trail s c.args.states.items) (sym c.in_ok-room.ensures) c.requires.first

-- the states lie in the shards as they were dealt
dealt : (g : _) (c : After-fill-shards g) → AreDealt givens (shape_of c.args.setup.now).shards c.args.states.items c.fill-shards.result.items
dealt g c = subst (λ (s : Setup). AreDealt givens (shape_of s).shards c.args.states.items c.fill-shards.result.items) c.in_ok-room.ensures c.fill-shards.ensures.dealt

-- and each shard is initial
first : (g : _) (c : After-fill-shards g) → AtEach (λ shard has. IsInitialShard c.args.setup.now shard (givens has) has) c.fill-shards.result.items
first g c = subst (λ (s : Setup). AtEach (λ shard has. IsInitialShard s shard (givens has) has) c.fill-shards.result.items) c.in_ok-room.ensures c.fill-shards.ensures.first

pub keep_shards-requires-clause-framed : goal.keep_shards-requires-clause-framed
keep_shards-requires-clause-framed g c =
    let at = (goal.at.keep_shards-requires-clause-framed g c).After-fill-shards in
    let setup = c.args.setup.now in
    let states = c.args.states.items in
    let s = get_there states 0 (let some : 1 ≤ colours_of setup = setup.colours_in.0 in let all = c.requires.first.all in omega (arith, some, all)) in
    λ k has there. subst (λ given. HaveFrame g.S.Trail.frame_of (g.S.Trail.frame_of given) (givens has)) (sym (c.first_given-given.ensures s.0 s.1))
    (shard_framed g.S.Trail setup states c.requires.first c.fill-shards.result.items (dealt g at) (first g at) s.0 s.1 k has there)

pub keep_shards-requires-clause-untouched : goal.keep_shards-requires-clause-untouched
keep_shards-requires-clause-untouched g c =
    let at = (goal.at.keep_shards-requires-clause-untouched g c).After-fill-shards in
    shard_untouched g.S.Trail c.args.setup.now c.args.states.items c.requires.first c.fill-shards.result.items (dealt g at) (first g at)

pub lock_all-requires-clause-empty : goal.lock_all-requires-clause-empty
lock_all-requires-clause-empty g c =
    let kept = c.in_ok-kept in
    all_here (λ v. v.notes ≡ []) kept.kept.items
    (kept_empty g.S.Trail.frame_of c.args.setup.now c.first_given-given.result.value c.fill-shards.result.items kept.kept.items kept.ensures.many kept.ensures.each)

pub returns-clause-locks : goal.returns-clause-locks
returns-clause-locks g c =
    let at = (goal.at.returns-clause-locks g c).After-fill-shards in
    let frame_of = g.S.Trail.frame_of in
    let setup = c.args.setup.now in
    let states = c.args.states.items in
    let sample = c.first_given-given.result.value in
    let shards = c.fill-shards.result.items in
    let kept = c.in_ok-kept in
    let locked = c.in_ok-locked in
    let locks = locked.locked.0.items in
    record {
      count = locked.ensures.locks ∙ kept.ensures.many ∙ (dealt g at).many;
      framed = λ state there.
          subst (λ s. AreFramed (shard_frame frame_of) (frame_for setup (frame_of s) (givens_behind (shard_frame frame_of) locks)) locks) (c.first_given-given.ensures state there)
          (shards_framed frame_of setup sample shards kept.kept.items kept.ensures.many kept.ensures.each locks locked.ensures.locks locked.ensures.frames (shard_is_own g.S.Trail setup states c.requires.first shards (dealt g at) (first g at)));
      given = states_given g.S.Trail setup states c.requires.first shards (dealt g at) (first g at) (givens_behind (shard_frame frame_of) locks)
          (told_givens frame_of setup sample shards kept.kept.items kept.ensures.many kept.ensures.each locks locked.ensures.locks locked.ensures.frames);
    }

pub returns-clause-dealt : goal.returns-clause-dealt
returns-clause-dealt g c = c.in_ok-locked.ensures.dealt

pub returns-clause-many : goal.returns-clause-many
returns-clause-many g c = c.in_ok-locked.ensures.many

pub returns-clause-rows : goal.returns-clause-rows
returns-clause-rows g c = c.in_ok-locked.ensures.rows
