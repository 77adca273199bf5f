use Rattle.std.proofs.Common.{◌≡◌, ◌<◌, Some, length, get_or, refl, ◌∙◌, arith}
use Rattle.std.proofs.lemmas.Option.{slice_get-get_or}
use Rattle.std.specs.Prelude.{slice_get}
use Rattle.mely_core.specs.CoreQueue.{CoreQueueState}
use Rattle.mely_weave.specs.Side.{readiness_for}
use Rattle.mely_weave.specs.SideStands.{ChainStands}
use Rattle.mely_weave.proofs.Marks.ChainingLemmas.{IsTold, told, none_told, chained_ready, chained_unready, none_there}
use Rattle.mely_weave.proofs.Entries.SideLemmas.{each_set}
use Rattle.mely_weave.proofs.gathering.chain_ready.Goals as goal
use Rattle.mely_weave.proofs.gathering.chain_ready.Goals.{In-Some, in-Some+in-Ok, in_default}

-- what is told of a colour that is ready
says : (g : _) (c : In-Some g) → IsTold c.args.setup.now c.args.shards.now c.requires.many c.requires.own c.loop-number.number c.shard_of-place.result c.index-shards-place.result c.shard_of-place.ensures c.index-shards-place.is c.in-Some.owner c.in-Some.started c.in-Some.worth
says g c = told c.args.setup.now c.args.shards.now c.requires.many c.requires.own c.loop-number.number c.shard_of-place.result c.index-shards-place.result c.shard_of-place.ensures c.index-shards-place.is c.in-Some.owner c.in-Some.started c.in-Some.worth c.in-Some.ensures

-- the chain of its owner is there
low : (g : _) (c : In-Some g) → c.in-Some.owner < length c.loop-number.chains
low g c = omega (arith, c.loop-number.invariant.chained.many, (says g c).core)

there : (g : _) (c : In-Some g) (queue : CoreQueueState) → slice_get c.loop-number.chains c.in-Some.owner ≡ Some (get_or c.loop-number.chains c.in-Some.owner queue)
there g c queue = slice_get-get_or c.loop-number.chains c.in-Some.owner queue (low g c)

pub bounds-chains-owner : goal.bounds-chains-owner
bounds-chains-owner g c = low g (goal.at.bounds-chains-owner g c).In-Some

pub push-requires : goal.push-requires
push-requires g c =
    let at = there g (goal.at.push-requires g c).In-Some c.index-chains-owner.result in
    let colours = (c.loop-number.invariant.stand c.in-Some.owner _ at).colours in
    let test = c.loop-number-test.true in
    let end = c.colours-number-end.ensures.value in
    omega (arith, test, end, colours)

pub unreachable-requires : goal.unreachable-requires
unreachable-requires g c =
    let at = there g (goal.at.unreachable-requires g c).In-Some c.index-chains-owner.result in
    none_there c.args.setup.now (readiness_for c.args.setup.now c.args.shards.now) c.loop-number.number c.loop-number.chains c.loop-number.invariant.chained c.in-Some.owner _ at (c.in_default-push.ensures.there.0 refl)

pub loop-number-preserved : goal.loop-number-preserved
loop-number-preserved g c = elim c.match-ready.branch [
  | in-Some+in-Ok w ↦
      let says = told c.args.setup.now c.args.shards.now c.requires.many c.requires.own c.loop-number.number c.shard_of-place.result c.index-shards-place.result c.shard_of-place.ensures c.index-shards-place.is w.in-Some.owner w.in-Some.started w.in-Some.worth w.in-Some.ensures in
      let many = c.loop-number.invariant.chained.many in
      let core = says.core in
      let queue : CoreQueueState = get_or c.loop-number.chains w.in-Some.owner w.index-chains-owner.result in
      let at : slice_get c.loop-number.chains w.in-Some.owner ≡ Some queue = slice_get-get_or c.loop-number.chains w.in-Some.owner w.index-chains-owner.result (omega (arith, many, core)) in
      let stood = c.loop-number.invariant.stand w.in-Some.owner queue at in
      let chained = chained_ready c.args.setup.now (readiness_for c.args.setup.now c.args.shards.now) c.loop-number.number c.loop-number.chains c.loop-number.invariant.chained w.in-Some.owner _ queue w.push.new.self says.ready says.owner_is says.mark_is at w.in-Ok.ensures.ok in
      let stands : ChainStands c.args.setup.now w.push.new.self = record { colours = w.push.ensures.same.colours ∙ stood.colours; cost = w.push.ensures.same.cost ∙ stood.cost; pinned = w.push.ensures.same.pinned ∙ stood.pinned; together = w.push.ensures.together } in
      let all = each_set (λ _. ChainStands c.args.setup.now) c.loop-number.chains w.in-Some.owner queue w.push.new.self at c.loop-number.invariant.stand stands in
      rw w.chains-is (record { chained = chained; stand = all })
  | in_default w ↦
      let unready = none_told c.args.setup.now c.args.shards.now c.requires.many c.requires.own c.loop-number.number c.shard_of-place.result c.index-shards-place.result c.shard_of-place.ensures c.index-shards-place.is w.in_default.ensures in
      rw w.chains-is (record {
        chained = chained_unready c.args.setup.now (readiness_for c.args.setup.now c.args.shards.now) c.loop-number.number c.loop-number.chains c.loop-number.invariant.chained unready;
        stand = c.loop-number.invariant.stand;
      })
]
